use Rattle.std.proofs.Common.{drop, length}
use Rattle.std.proofs.lemmas.Bool.Decides.{Decides-eqb}
use Rattle.std.proofs.lemmas.Slice.Eq.{starts_is}
use Rattle.sms_journal.proofs.of_ledger.head.begins_with.Goals as goal

pub returns : goal.returns
returns c =
    let text = c.args.text.now in
    let front = c.args.front.now in
    let is = starts_is Decides-eqb text front c.starts_with.result c.starts_with.ensures.value in
    (λ e. (drop (length front) text, is.0 e), λ begins. is.1 begins.0 begins.1)
