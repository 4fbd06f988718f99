use Rattle.std.proofs.Common.{rules}
use Rattle.std.proofs.lemmas.Slice.Eq.{slice_eq-Decides}
use Rattle.std.proofs.lemmas.Bool.Decides.{Decides-eqb}
use Rattle.std.proofs.lemmas.Bool.{both_ways}
use Rattle.sms_journal.proofs.Records.{no_front}
use Rattle.sms_journal.proofs.text.header_fields.behind.Goals as goal

pub returns-else-eq : goal.returns-else-eq
returns-else-eq c = λ rest is.
    let decides = slice_eq-Decides Decides-eqb _ _ _ c.eq.ensures in
    both_ways _ c.if-eq.false (decides.1 (no_front c.args.text.now c.args.front.now c.split_at.result.0.now rest (search rules) is))
