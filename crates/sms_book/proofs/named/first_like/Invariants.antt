use Rattle.std.proofs.Common.{ℕ, ◌<◌, map}
use Rattle.sms_book.specs.Openings.{HaveOneName}
use Rattle.sms_book.proofs.named.first_like.Given as goal

abbrev pub invariant-loop-first : goal.invariant-loop-first
invariant-loop-first g l = (k : ℕ) → k < l.first → ¬ (HaveOneName (map g.T.Named.name l.items) k l.second)
