use Rattle.std.proofs.Common.{◌≡◌, ◌++◌, ◌-◌, map}
use Rattle.std.specs.Prelude.{replicate}
use Rattle.sms_journal.specs.Replied.{said}
use Rattle.sms_journal.specs.ReportParts.{again}
use Rattle.sms_journal.proofs.audit.told.push_again.Given as goal

abbrev pub invariant-loop : goal.invariant-loop
invariant-loop l = map said l.items.items ++ replicate (l.count - l.counter) again ≡ map said l.initial.items.items ++ replicate l.count again
