use Rattle.std.proofs.Common.{ℕ, ◌<◌, ◌≤◌, slice_index}
use Rattle.sms_core.specs.Limits.{most_topped}
use Rattle.sms_book.specs.Openings.{credits_of}
use Rattle.sms_book.proofs.opening.are_small.Given as goal

abbrev pub invariant-loop-opening : goal.invariant-loop-opening
invariant-loop-opening l = (k : ℕ) → k < l.opening-index → slice_index (credits_of l.openings) k ≤ most_topped
