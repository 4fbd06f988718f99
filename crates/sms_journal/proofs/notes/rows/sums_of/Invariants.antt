use Rattle.std.proofs.Common.{◌≡◌, ℕ, length, drop, Some}
use Rattle.std.specs.Prelude.{slice_get}
use Rattle.sms_journal.specs.declared.notes.rows.Sums.{Sums}
use Rattle.sms_journal.specs.Sums.{AreSumsBefore}
use Rattle.sms_journal.proofs.notes.rows.sums_of.Given as goal

abbrev pub invariant-loop-place : goal.invariant-loop-place
invariant-loop-place l = record {
  length : length l.sums.items ≡ l.accounts;
  each : (i : ℕ) (s : Sums) → slice_get l.sums.items i ≡ Some s → AreSumsBefore i l.messages (drop l.place l.messages) l.ends (drop l.place l.ends) s;
}
