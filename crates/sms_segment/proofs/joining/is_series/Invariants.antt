-- The parts so far stand at their places.
use Rattle.std.proofs.Common.{ℕ, ◌+◌, ◌<◌, length, get_or}
use Rattle.sms_segment.specs.declared.part.Part.{Part}
use Rattle.sms_segment.specs.Joining.{StandsAt}
use Rattle.sms_segment.proofs.joining.is_series.Given as goal

abbrev pub invariant-loop-index : goal.invariant-loop-index
invariant-loop-index l = (k : ℕ) (other : Part) → k < l.index → StandsAt l.reference l.coding (length l.parts) (k + 1) (get_or l.parts k other)
