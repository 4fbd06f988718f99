use Rattle.std.proofs.Common.{◌≡◌, ℕ, length, Some}
use Rattle.std.specs.Prelude.{slice_get}
use Rattle.sms_journal.specs.declared.notes.rows.Sums.{Sums}
use Rattle.sms_journal.specs.Sums.{no_sums}
use Rattle.sms_journal.proofs.notes.rows.no_sums.Given as goal

abbrev pub invariant-loop : goal.invariant-loop
invariant-loop l = record {
  length : length l.sums.items ≡ l.counter;
  each : (i : ℕ) (s : Sums) → slice_get l.sums.items i ≡ Some s → s ≡ no_sums;
}
