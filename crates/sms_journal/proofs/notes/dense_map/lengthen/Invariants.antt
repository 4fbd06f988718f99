use Rattle.std.proofs.Common.{◌≡◌, ℕ, length}
use Rattle.sms_journal.specs.DenseMap.{listed_at}
use Rattle.sms_journal.proofs.notes.dense_map.lengthen.Given as goal

abbrev pub invariant-loop-place : goal.invariant-loop-place
invariant-loop-place g l = record {
  long : length l.near.items ≡ l.place;
  same : (q : ℕ) → listed_at l.near.items q ≡ listed_at l.fn.near.items q;
}
