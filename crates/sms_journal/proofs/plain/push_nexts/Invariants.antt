use Rattle.std.proofs.Common.{◌≡◌, ◌++◌, ◌-◌}
use Rattle.csv.specs.Records.{fields_of}
use Rattle.sms_journal.specs.PlainFiles.{nexts_from}
use Rattle.sms_journal.proofs.plain.push_nexts.Given as goal

abbrev pub invariant-loop-place : goal.invariant-loop-place
invariant-loop-place l =
    l.text.items ++ nexts_from (fields_of l.record) l.place (l.width - l.place) ≡ l.initial.text.items ++ nexts_from (fields_of l.record) 1 (l.width - 1)
