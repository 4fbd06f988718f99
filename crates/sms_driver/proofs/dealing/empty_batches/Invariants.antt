use Rattle.std.proofs.Common.{◌≡◌, [], map, replicate, vec_len, vec_capacity, ◌≤◌}
use Rattle.sms_driver.proofs.dealing.empty_batches.Given as goal

abbrev pub invariant-loop-i : goal.invariant-loop-i
invariant-loop-i g l = record {
  empty : map (λ l. l.items) l.batches.items ≡ replicate l._i [];
  room : (vec_len l.batches ≡ l._i) × (l.count ≤ vec_capacity l.batches);
}
