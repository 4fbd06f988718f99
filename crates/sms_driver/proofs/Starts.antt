-- What a fault says of the start of a sending.
use Rattle.std.specs.Prelude.{◌≡◌, ℕ, List, Option, Result, Ok, Err, MatchResult}
use Rattle.std.proofs.Common.{refl, sym, ap, ◌∙◌, subst, inl, inr}
use Rattle.sms_driver.specs.declared.fault.SendFault.{SendFault}
use Rattle.sms_driver.specs.declared.fault.SendFault.TheVariants.{OutOfMemory}
use Rattle.sms_driver.specs.declared.start_gate.Command.{Command}
use Rattle.sms_driver.specs.declared.start_gate.Command.TheVariants.{Go, Leave}
use Rattle.sms_driver.specs.declared.start.StartPhase.{StartPhase}
use Rattle.sms_driver.specs.declared.start.StartPhase.TheVariants.{Idle, Released}
use Rattle.sms_pdu.specs.declared.command.Mode.{Mode}
use Rattle.sms_bind.specs.declared.binding.BindFault.{BindFault}
use Rattle.sms_bind.specs.declared.binding.BindFault.TheVariants as bind
use Rattle.sms_driver.specs.SendFaults.{IsFaultOf, IsOfStart, TellsBind}
use Rattle.sms_driver.specs.Starts.{TellsStart}

-- a bind that fails, before a command
tells_in : (place : ℕ) (why : BindFault) (f : SendFault) → TellsBind place why f → TellsStart Idle f
tells_in place (bind.Refused status) f is = subst (TellsStart Idle) (sym is) refl
tells_in place bind.Closed f is = subst (TellsStart Idle) (sym is) refl
tells_in place bind.NotSmpp f is = subst (TellsStart Idle) (sym is) refl
tells_in place bind.Read f (failure, is) = subst (TellsStart Idle) (sym is) refl
tells_in place bind.Write f (failure, is) = subst (TellsStart Idle) (sym is) refl
tells_in place bind.OutOfMemory f is = subst (TellsStart Idle) (sym is) (inl refl)

pub tells_bind : (refuses : ℕ → Type 0) (told : ℕ → Option (List ℕ)) (mode : Mode) (place : ℕ) (f : SendFault) → IsFaultOf refuses told mode place f → TellsStart Idle f
tells_bind refuses told mode place f (inl e) = subst (TellsStart Idle) (sym e) (inl refl)
tells_bind refuses told mode place f (inr (inl (e, none))) = subst (TellsStart Idle) (sym e) refl
tells_bind refuses told mode place f (inr (inr (why, refused, tells))) = tells_in place why f tells

-- so each fault before a command, of a start at which none was given
pub tells_before : (b : StartPhase) (f : SendFault) → b ≡ Idle → TellsStart Idle f → TellsStart b f
tells_before b f yet h = subst (λ x. TellsStart x f) (sym yet) h

-- so where memory is refused before
pub tells_memory : (b : StartPhase) (f : SendFault) → b ≡ Idle → f ≡ OutOfMemory → TellsStart b f
tells_memory b f yet e = subst (TellsStart b) (sym e) (inl yet)

-- all were ordered to leave
pub tells_left : (b : StartPhase) (f : SendFault) → b ≡ Released Leave → IsOfStart f → TellsStart b f
tells_left b f left (inl e) = subst (TellsStart b) (sym e) (inr left)
tells_left b f left (inr e) = subst (TellsStart b) (sym e) left

-- a start that has the command that was given: to go, or to leave if there is a fault
pub told_command : {A E : Type 0} (r : Result A E) (w : Command) (b : StartPhase) → b ≡ Released w → MatchResult r (λ _. w ≡ Go) (λ _. w ≡ Leave) → MatchResult r (λ _. b ≡ Released Go) (λ _. b ≡ Released Leave)
told_command (Ok a) w b is go = is ∙ ap Released go
told_command (Err e) w b is leave = is ∙ ap Released leave
