use Rattle.std.proofs.Common.{◌≡◌, ℕ, List, false, drop, map, rules}
use Rattle.std.specs.Prelude.{codes, is_some}
use Rattle.std.specs.HashMap.{get_by_text}
use Rattle.csv.specs.Records.{fields_of}
use Rattle.sms_files.specs.Fields.{records_of}
use Rattle.sms_ledger.specs.InMemory.{state_in}
use Rattle.sms_journal.proofs.Payers.{whole_file}
use Rattle.sms_journal.proofs.of_ledger.accounts.accounts_of.Goals as goal

pub returns : goal.returns
returns c =
    let header : c.append_octets.new.list.items ≡ codes "account,credits\n" = search rules in
    let payers : map fields_of c.behind_first-payers.result.now ≡ drop 1 (records_of c.args.messages.now) = search rules in
    let none : (q : List ℕ) → is_some (get_by_text c.new-seen.result q) ≡ false = λ q. search rules in
    whole_file (state_in c.args.ledger.now) (λ q. is_some (get_by_text c.new-seen.result q)) c.append_octets.new.list.items c.add_payers.new.text.items (map fields_of c.behind_first-payers.result.now) (records_of c.args.messages.now) none header payers c.in_ok-add_payers.ensures
