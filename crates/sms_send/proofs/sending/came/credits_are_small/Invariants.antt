use Rattle.std.proofs.Common.{ℕ, ◌<◌, ◌^◌}
use Rattle.sms_book.specs.Openings.{credits_of}
use Rattle.sms_book.specs.Portions.{topped_at}
use Rattle.sms_send.proofs.sending.came.credits_are_small.Given as goal

abbrev pub invariant-loop-opening : goal.invariant-loop-opening
invariant-loop-opening l = (i : ℕ) → i < l.opening-index → topped_at (credits_of l.openings) i < 2 ^ 64
