use Rattle.std.proofs.Common.{◌≡◌, ◌≤◌, vec_len, vec_capacity}
use Rattle.std.specs.List.{AllZip}
use Rattle.sms_driver.specs.Rings.{IsNewPair}
use Rattle.sms_driver.proofs.binding.rings.rings_of.Given as goal

abbrev pub invariant-loop-worker : goal.invariant-loop-worker
invariant-loop-worker l = record {
  producers : (vec_len l.producers ≡ l._worker) × (l.workers ≤ vec_capacity l.producers);
  consumers : (vec_len l.consumers ≡ l._worker) × (l.workers ≤ vec_capacity l.consumers);
  pairs : AllZip IsNewPair l.producers.items l.consumers.items;
}
