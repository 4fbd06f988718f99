use Rattle.sms_core.proofs.EventSteps.{event_steps}
use Rattle.sms_core.proofs.laws.every_event_steps.Goals as goal

pub returns : goal.returns
returns c = event_steps
