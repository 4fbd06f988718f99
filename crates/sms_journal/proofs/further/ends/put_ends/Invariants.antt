use Rattle.std.proofs.Common.{◌≡◌, ◌++◌, length, take, drop}
use Rattle.sms_journal.specs.Over.{ends_over}
use Rattle.sms_journal.proofs.further.ends.put_ends.Given as goal

abbrev pub invariant-loop-place : goal.invariant-loop-place
invariant-loop-place g l = record {
  long : length l.ends.items ≡ length l.initial.ends.items;
  over : take l.place l.ends.items ++ ends_over (drop l.place l.ends.items) l.later.items ≡ ends_over l.initial.ends.items l.initial.later.items;
}
