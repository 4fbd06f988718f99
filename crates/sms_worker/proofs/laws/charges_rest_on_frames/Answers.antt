use Rattle.sms_worker.proofs.Resting.{charges_rest}
use Rattle.sms_worker.proofs.laws.charges_rest_on_frames.Goals as goal

pub returns : goal.returns
returns c = charges_rest c.args.producers.items c.args.consumers.items c.received_are_prefixes.ensures
