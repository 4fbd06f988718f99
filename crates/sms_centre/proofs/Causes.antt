-- The stop that a cause names.
use Rattle.std.proofs.Common.{◌≡◌, refl}
use Rattle.sms_centre.specs.declared.serving.ServeCause.TheVariants as cause
use Rattle.sms_centre.specs.declared.serving.Stop.{Stop}
use Rattle.sms_centre.specs.declared.serving.Stop.TheVariants as stop
use Rattle.sms_centre.specs.Stops.{cause_of}

pub read_stop : (s : Stop) → cause_of s ≡ cause.ReadFault → s ≡ stop.ReadFault
read_stop stop.Ended e = absurd cc
read_stop stop.HungUp e = absurd cc
read_stop stop.Unbound e = absurd cc
read_stop stop.Lost e = absurd cc
read_stop stop.ReadFault e = refl
read_stop stop.WriteFault e = absurd cc
read_stop stop.Turns e = absurd cc
read_stop stop.OutOfMemory e = absurd cc

pub write_stop : (s : Stop) → cause_of s ≡ cause.WriteFault → s ≡ stop.WriteFault
write_stop stop.Ended e = absurd cc
write_stop stop.HungUp e = absurd cc
write_stop stop.Unbound e = absurd cc
write_stop stop.Lost e = absurd cc
write_stop stop.ReadFault e = absurd cc
write_stop stop.WriteFault e = refl
write_stop stop.Turns e = absurd cc
write_stop stop.OutOfMemory e = absurd cc

pub turns_stop : (s : Stop) → cause_of s ≡ cause.Turns → s ≡ stop.Turns
turns_stop stop.Ended e = absurd cc
turns_stop stop.HungUp e = absurd cc
turns_stop stop.Unbound e = absurd cc
turns_stop stop.Lost e = absurd cc
turns_stop stop.ReadFault e = absurd cc
turns_stop stop.WriteFault e = absurd cc
turns_stop stop.Turns e = refl
turns_stop stop.OutOfMemory e = absurd cc
