use Rattle.std.proofs.Common.{rules}
use Rattle.sms_driver.specs.Rings.{IsNewPair}
use Rattle.sms_driver.proofs.Windows.{zip_more}
use Rattle.sms_driver.proofs.binding.rings.rings_of.Goals as goal

pub loop-worker-preserved : goal.loop-worker-preserved
loop-worker-preserved c =
    let made = c.in_ok-producer.ensures in
    record {
      producers = search rules;
      consumers = search rules;
      pairs = rw c.push_reserved.ensures.items (rw c.push_reserved-in-loop-worker.ensures.items (zip_more IsNewPair c.loop-worker.producers.items c.loop-worker.consumers.items _ _ c.loop-worker.invariant.pairs (made.pair, made.producer.0, made.consumer.0, made.producer.1)));
    }
