use Rattle.std.proofs.Common.{◌≡◌, ◌∙◌, Some, rules}
use Rattle.std.proofs.lemmas.Slice.Eq.{slice_eq-Decides}
use Rattle.std.proofs.lemmas.Bool.Decides.{Decides-eqb}
use Rattle.std.proofs.lemmas.Bool.{both_ways}
use Rattle.sms_inbox.specs.Fields.{record_in}
use Rattle.sms_inbox.specs.Record.{record_text}
use Rattle.sms_inbox.proofs.Reading.{no_record, written_again}
use Rattle.sms_inbox.proofs.lines.read_line.Goals as goal

pub returns-in_default : goal.returns-in_default
returns-in_default c = λ r l. no_record c.args.line.now r l (search rules)

pub returns-else-eq : goal.returns-else-eq
returns-else-eq c = λ r l.
    let told : record_in c.args.line.now ≡ Some c.in-Some.record = search rules in
    let line : c.as_bytes.result.now ≡ record_text c.in-Some.record = search rules in
    let decides = slice_eq-Decides Decides-eqb _ _ _ c.eq.ensures in
    both_ways _ c.if-eq.false (decides.1 (line ∙ written_again c.args.line.now r c.in-Some.record l told))
