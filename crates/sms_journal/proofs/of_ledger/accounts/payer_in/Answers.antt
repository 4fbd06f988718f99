use Rattle.std.proofs.Common.{◌≡◌, ◌∙◌, [], sym, rules}
use Rattle.csv.specs.Records.{fields_of}
use Rattle.sms_journal.proofs.Payers.{first_is, no_first}
use Rattle.sms_journal.proofs.of_ledger.accounts.payer_in.Goals as goal

pub returns-in-Some : goal.returns-in-Some
returns-in-Some c = first_is (fields_of c.args.record.now) c.in-Some.name.now (sym c.in-Some.ensures.value)

pub returns-in-None : goal.returns-in-None
returns-in-None c =
    let empty : c.as_slice.result.now ≡ [] = search rules in
    empty ∙ no_first (fields_of c.args.record.now) (sym c.in-None.ensures.value)
