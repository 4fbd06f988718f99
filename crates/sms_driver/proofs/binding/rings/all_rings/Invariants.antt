use Rattle.std.proofs.Common.{◌≡◌, ◌≤◌, length, vec_len, vec_capacity}
use Rattle.std.specs.List.{AllByRecursion, AllZip}
use Rattle.sms_driver.specs.Rings.{IsNewPair}
use Rattle.sms_driver.proofs.binding.rings.all_rings.Given as goal

abbrev pub invariant-loop-bind : goal.invariant-loop-bind
invariant-loop-bind l = record {
  room : (vec_len l.all ≡ l._bind) × (l.binds ≤ vec_capacity l.all);
  workers : AllByRecursion (λ r. length r.consumers.items ≡ l.workers) l.all.items;
  pairs : AllByRecursion (λ r. AllZip IsNewPair r.producers.items r.consumers.items) l.all.items;
}
