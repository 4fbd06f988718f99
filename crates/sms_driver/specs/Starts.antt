-- How far a sending came, and which faults it can end with there.
use Rattle.std.specs.Prelude.{◌≡◌, ◌⊎◌}
use Rattle.sms_driver.specs.declared.fault.SendFault.{SendFault}
use Rattle.sms_driver.specs.declared.fault.SendFault.TheVariants as fault
use Rattle.sms_driver.specs.declared.start_gate.StartGate.{StartGate}
use Rattle.sms_driver.specs.declared.start_gate.Command.TheVariants.{Leave}
use Rattle.sms_driver.specs.declared.start.StartPhase.{StartPhase}
use Rattle.sms_driver.specs.declared.start.StartPhase.TheVariants.{Idle, Starting, Released}
use Rattle.sms_driver.specs.declared.start.Stage.{Stage}
use Rattle.sms_driver.specs.declared.start.Stage.TheVariants as stage
use Rattle.sms_driver.specs.StartGates.{IsFiredAt, command_of}

-- what contracts see of a start
pub record StartState : Type 0 where
  pub latch : StartGate
  pub begun : StartPhase

abbrev pub begun_of : Stage → StartPhase
begun_of (stage.Trigger trigger) = Idle
begun_of stage.Taken = Starting
begun_of (stage.Started started) = Released (command_of started)

-- the permission is of this gate, or the command was given there
abbrev pub IsStageAt : StartGate → Stage → Type 0
IsStageAt latch (stage.Trigger trigger) = trigger.latch.value ≡ latch
IsStageAt latch stage.Taken = Unit {0}
IsStageAt latch (stage.Started started) = IsFiredAt latch started

-- how far a sending came that ends with this fault; its threads were never let go: a book is refused, and a bind fails, before a command is given; if a thread
-- is refused all were ordered to leave; and memory is refused before a command, or all were ordered to leave
abbrev pub TellsStart : StartPhase → SendFault → Type 0
TellsStart begun (fault.BindRefused bind status) = begun ≡ Idle
TellsStart begun (fault.BindFailed bind why) = begun ≡ Idle
TellsStart begun (fault.BookRefused why) = begun ≡ Idle
TellsStart begun fault.ThreadRefused = begun ≡ Released Leave
TellsStart begun fault.OutOfMemory = (begun ≡ Idle) ⊎ (begun ≡ Released Leave)
