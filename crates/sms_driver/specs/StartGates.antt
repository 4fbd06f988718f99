-- What a thread that waited at a start gate gives back.
use Rattle.std.specs.Prelude.{◌≡◌, List}
use Rattle.std.specs.List.{AllByRecursion}
use Rattle.std.specs.declared.thread.PromisedHandle.{PromisedHandle}
use Rattle.sms_driver.specs.declared.start_gate.StartGate.{StartGate}
use Rattle.sms_driver.specs.declared.start_gate.Started.{Started}
use Rattle.sms_driver.specs.declared.start_gate.ThreadResult.{ThreadResult}
use Rattle.sms_driver.specs.declared.start_gate.Command.{Command}
use Rattle.sms_driver.specs.declared.start_gate.Command.TheVariants.{Go, Leave}

-- the command that was given
abbrev pub command_of : Started → Command
command_of started = started.token.value

-- both were given at one gate
abbrev pub IsAtOne : Started → Started → Type 0
IsAtOne one other = one.token.of ≡ other.token.of

-- the command was given at this gate
abbrev pub IsFiredAt : StartGate → Started → Type 0
IsFiredAt latch started = started.token.of ≡ latch.command.id

-- a thread waited at the gate: `go` holds of its value if the command was to go, and `leave` if it was to leave
pub record IsReleased {T : Type 0} (latch : StartGate) (go leave : T → Type 0) (thread_result : ThreadResult T) : Type 0 where
  pub at : IsFiredAt latch thread_result.started
  pub on_go : command_of thread_result.started ≡ Go → go thread_result.value
  pub on_leave : command_of thread_result.started ≡ Leave → leave thread_result.value

-- a thread with this promise gave the value back, and was given the command
pub record IsValueBy {T P : Type 0} (kept : P → ThreadResult T → Type 0) (command : Command) (promise : P) (value : T) : Type 0 where
  pub thread_result : ThreadResult T
  pub keeps : kept promise thread_result
  pub command_is : command_of thread_result.started ≡ command
  pub is : thread_result.value ≡ value

-- each thread waited at the gate where this command was given
abbrev pub AreOfOneLatch : {T P : Type 0} → (P → ThreadResult T → Type 0) → Started → List (PromisedHandle (ThreadResult T) P) → Type 0
AreOfOneLatch {T} kept started handles = AllByRecursion (λ h. (thread_result : ThreadResult T) → kept h.promise thread_result → IsAtOne thread_result.started started) handles
