use Rattle.std.proofs.Common.{◌≡◌, ◌++◌, drop, map}
use Rattle.std.specs.Prelude.{option_copied}
use Rattle.csv.specs.Records.{fields_of}
use Rattle.sms_journal.specs.Rest.{left_texts}
use Rattle.sms_journal.proofs.rest.printing.push_all_left.Given as goal

abbrev pub invariant-loop-place : goal.invariant-loop-place
invariant-loop-place l =
    l.text.items ++ left_texts (option_copied l.refs) (map fields_of l.report) l.place (map fields_of (drop l.place l.messages)) ≡ l.initial.text.items ++ left_texts (option_copied l.refs) (map fields_of l.report) 0 (map fields_of l.messages)
