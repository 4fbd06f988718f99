use Rattle.sms_devices.specs.Connecting.{IsLastReason}
use Rattle.sms_devices.proofs.transport.connecting.first_of.Given as goal

abbrev pub invariant-loop-address : goal.invariant-loop-address
invariant-loop-address g l = IsLastReason (g.K.Asks.says l.asks) l.yielded l.last
