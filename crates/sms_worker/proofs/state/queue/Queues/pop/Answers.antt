use Rattle.std.proofs.Common.{◌<◌, None, length, rules}
use Rattle.sms_worker.specs.declared.state.queue.Queue.{Queue}
use Rattle.sms_worker.proofs.Naming.{popped_heads}
use Rattle.sms_worker.proofs.state.queue.Queues.pop.Goals as goal

abbrev none : Queue
none = record { first = None; last = None }

pub returns-clause-heads : goal.returns-clause-heads
returns-clause-heads c k named is =
    let low : c.args.queue < length c.args.self.now.all = search rules in
    popped_heads c.args.self.now.all c.args.queue none c.without_first.result low k named c.args.pending.now c.without_first.ensures is
