use Rattle.std.proofs.Common.{◌≡◌, ◌<◌, ℕ, length, Some, true}
use Rattle.std.specs.Prelude.{slice_get}
use Rattle.sms_journal.proofs.rest.left.all_left.Given as goal

abbrev pub invariant-loop : goal.invariant-loop
invariant-loop l = record {
  length : length l.left.items ≡ l.counter;
  each : (i : ℕ) → i < l.counter → slice_get l.left.items i ≡ Some true;
}
