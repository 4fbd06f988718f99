use Rattle.std.proofs.Common.{◌≡◌, ◌≤◌, length, take, vec_capacity}
use Rattle.sms_book.specs.Openings.{credits_of}
use Rattle.sms_book.proofs.opening.credits_in.Given as goal

abbrev pub invariant-loop-opening : goal.invariant-loop-opening
invariant-loop-opening l = (l.credits.items ≡ credits_of (take l.opening-index l.openings)) × (length l.openings ≤ vec_capacity l.credits)
