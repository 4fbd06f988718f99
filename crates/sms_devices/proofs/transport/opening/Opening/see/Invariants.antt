use Rattle.std.proofs.Common.{◌≡◌, drop}
use Rattle.sms_devices.specs.Openings.{seen_all}
use Rattle.sms_devices.proofs.transport.opening.Opening.see.Given as goal

abbrev pub invariant-loop-octet : goal.invariant-loop-octet
invariant-loop-octet l = seen_all (drop l.octet-index l.octets) l.self ≡ seen_all l.octets l.initial.self
