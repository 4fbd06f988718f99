use Rattle.std.proofs.Common.{sym}
use Rattle.sms_worker.proofs.state.stop.Stop.ask.Goals as goal

pub invariant_of-self : goal.invariant_of-self
invariant_of-self g c = (c.requires.given.0, c.args.message.now, c.requires.given.1, sym c.in-Err.ensures.refused)
