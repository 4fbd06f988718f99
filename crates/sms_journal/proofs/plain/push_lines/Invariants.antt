use Rattle.std.proofs.Common.{◌≡◌, ◌++◌, drop, map}
use Rattle.csv.specs.Records.{fields_of}
use Rattle.sms_journal.specs.PlainFiles.{plain_lines}
use Rattle.sms_journal.proofs.plain.push_lines.Given as goal

abbrev pub invariant-loop-place : goal.invariant-loop-place
invariant-loop-place l = l.text.items ++ plain_lines l.quoted (map fields_of (drop l.place l.rows)) ≡ l.initial.text.items ++ plain_lines l.quoted (map fields_of l.rows)
