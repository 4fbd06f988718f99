use Rattle.std.proofs.Common.{◌≡◌, ◌++◌, drop, map}
use Rattle.csv.specs.Records.{fields_of}
use Rattle.sms_journal.specs.Rest.{account_texts}
use Rattle.sms_journal.proofs.rest.printing.push_accounts.Given as goal

abbrev pub invariant-loop-place : goal.invariant-loop-place
invariant-loop-place l =
    l.text.items ++ account_texts (drop l.place l.openings) (map fields_of (drop l.place l.rows)) ≡ l.initial.text.items ++ account_texts l.openings (map fields_of l.rows)
