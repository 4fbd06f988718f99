use Rattle.std.proofs.Common.{◌≡◌, ◌+◌, ◌-◌, ◌≤◌}
use Rattle.sms_journal.proofs.Days.{before}
use Rattle.sms_journal.proofs.bill.calendar.date_in.Given as goal

abbrev pub invariant-loop-month : goal.invariant-loop-month
invariant-loop-month l = record {
  low : 1 ≤ l.month;
  high : l.month ≤ 12;
  sum : before l.year l.month + l.rest ≡ l.left;
}

abbrev pub decreases-loop-month : goal.decreases-loop-month
decreases-loop-month l = 12 - l.month
