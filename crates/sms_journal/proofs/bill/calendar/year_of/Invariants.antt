use Rattle.std.proofs.Common.{◌≡◌, ◌+◌, ◌-◌, ◌≤◌}
use Rattle.sms_journal.specs.Calendar.{date_of, first_of}
use Rattle.sms_journal.proofs.bill.calendar.year_of.Given as goal

abbrev pub invariant-loop-left : goal.invariant-loop-left
invariant-loop-left l = record {
  low : l.left ≤ l.days;
  bound : l.year + l.left ≤ 1970 + l.days;
  day : date_of (l.days - l.left) ≡ first_of l.year;
}

abbrev pub decreases-loop-left : goal.decreases-loop-left
decreases-loop-left l = l.left
