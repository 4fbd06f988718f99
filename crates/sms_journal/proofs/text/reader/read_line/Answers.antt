use Rattle.std.proofs.Common.{◌≡◌, ◌∙◌, Some, rules}
use Rattle.std.proofs.lemmas.Slice.Eq.{slice_eq-Decides}
use Rattle.std.proofs.lemmas.Bool.Decides.{Decides-eqb}
use Rattle.std.proofs.lemmas.Bool.{both_ways}
use Rattle.sms_journal.specs.Text.{note_text}
use Rattle.sms_journal.specs.Reading.{note_in, time_in}
use Rattle.sms_journal.proofs.Records.{no_note, no_time, written_again}
use Rattle.sms_journal.proofs.text.reader.read_line.Goals as goal

pub returns-in_default : goal.returns-in_default
returns-in_default c = λ time note low good is. no_time c.args.line.now time note low is (search rules)

pub returns-in_default-2 : goal.returns-in_default-2
returns-in_default-2 c = λ time note low good is. no_note c.args.line.now time note low good is (search rules)

pub returns-else-eq : goal.returns-else-eq
returns-else-eq c = λ time note low good is.
    let recovered : note_in c.args.line.now ≡ Some c.in-Some-2.note = search rules in
    let there : time_in c.args.line.now ≡ Some c.in-Some.time = search rules in
    let line : c.as_bytes.result.now ≡ note_text c.in-Some.time c.in-Some-2.note = search rules in
    let decides = slice_eq-Decides Decides-eqb _ _ _ c.eq.ensures in
    both_ways _ c.if-eq.false (decides.1 (line ∙ written_again c.args.line.now time note c.in-Some.time c.in-Some-2.note low good is there recovered))
