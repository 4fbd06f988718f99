use Rattle.std.proofs.Common.{◌≡◌, ℕ, Some, take}
use Rattle.std.specs.Prelude.{IsSome, slice_get}
use Rattle.sms_journal.specs.DenseMap.{value_at}
use Rattle.sms_journal.proofs.notes.ending.all_started.Given as goal

abbrev pub invariant-loop-place : goal.invariant-loop-place
invariant-loop-place l = (k i : ℕ) → slice_get (take l.place l.given) k ≡ Some i → IsSome (value_at l.starts i)
