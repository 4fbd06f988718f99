use Rattle.std.proofs.Common.{◌≡◌, ◌++◌, length, take, drop}
use Rattle.sms_journal.specs.Going.{over}
use Rattle.sms_journal.proofs.notes.run_ends.put_over.Given as goal

abbrev pub invariant-loop-place : goal.invariant-loop-place
invariant-loop-place l = record {
  long : length l.ends.items ≡ length l.initial.ends.items;
  over_is : take l.place l.ends.items ++ over (drop l.place l.ends.items) l.later.items ≡ over l.initial.ends.items l.initial.later.items;
}
