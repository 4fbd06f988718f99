use Rattle.std.proofs.Common.{◌≡◌, ◌++◌, drop, map}
use Rattle.std.specs.Prelude.{filter, flat_map, is_some}
use Rattle.std.specs.HashMap.{get_by_text}
use Rattle.csv.specs.Records.{fields_of}
use Rattle.sms_files.specs.Accounts.{name_in}
use Rattle.sms_ledger.specs.InMemory.{state_in}
use Rattle.sms_journal.specs.OfLedger.{account_line, distinct}
use Rattle.sms_journal.specs.Payers.{is_unseen}
use Rattle.sms_journal.proofs.of_ledger.accounts.add_payers.Given as goal

-- the records so far and those of what is left are those of all
abbrev pub invariant-loop-record : goal.invariant-loop-record
invariant-loop-record l =
    l.text.items ++ flat_map (account_line (state_in l.ledger)) (filter (is_unseen (λ q. is_some (get_by_text l.seen q))) (distinct (map name_in (map fields_of (drop l.record-index l.records)))))
    ≡ l.fn.text.items ++ flat_map (account_line (state_in l.ledger)) (filter (is_unseen (λ q. is_some (get_by_text l.fn.seen q))) (distinct (map name_in (map fields_of l.records))))
