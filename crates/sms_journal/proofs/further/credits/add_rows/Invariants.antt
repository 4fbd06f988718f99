use Rattle.std.proofs.Common.{◌≡◌, ◌++◌, length, take, drop}
use Rattle.sms_journal.specs.Over.{rows_over}
use Rattle.sms_journal.proofs.further.credits.add_rows.Given as goal

abbrev pub invariant-loop-place : goal.invariant-loop-place
invariant-loop-place l = record {
  long : length l.rows.items ≡ length l.initial.rows.items;
  over : take l.place l.rows.items ++ rows_over (drop l.place l.rows.items) (drop l.place l.later) ≡ rows_over l.initial.rows.items l.later;
}
