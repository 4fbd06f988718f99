use Rattle.sms_devices.proofs.Stops.{stops}
use Rattle.sms_devices.proofs.clock.steady.the_clock_is_steady.Goals as goal

pub returns-clause-stops : goal.returns-clause-stops
returns-clause-stops c = stops
