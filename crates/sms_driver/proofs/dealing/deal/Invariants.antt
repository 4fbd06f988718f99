use Rattle.std.proofs.Common.{◌≡◌, ◌<◌, length, map}
use Rattle.std.specs.Vec.Iter.{into_iter_items}
use Rattle.sms_driver.specs.Deals.{dealt, onto}
use Rattle.sms_driver.proofs.dealing.deal.Given as goal

abbrev pub invariant-loop-item : goal.invariant-loop-item
invariant-loop-item g l = record {
  long : length l.batches.items ≡ l.count;
  place : l.place < l.count;
  dealt : onto (map (λ l. l.items) l.batches.items) (dealt l.count l.place (into_iter_items l.item-iterator)) ≡ dealt l.count 0 l.fn.items.items;
}
