-- What was sent, or why it wasn't, from a part of the sender to the whole.
use Rattle.std.proofs.Common.{◌≡◌, ◌∙◌, ◌⊎◌, inl, inr, subst, ◌<◌, ◌≤◌, ◌+◌, arith, ℕ, Bool, List, Option, Some, None, Result, Ok, Err, IfOk, IfErr, refl}
use Rattle.std.proofs.lemmas.Option.{IfSome_then}
use Rattle.std.specs.Prelude.{◌≢◌}
use Rattle.sms_files.specs.Inputs.{Told}
use Rattle.sms_send.specs.Opened.{OfFile}
use Rattle.sms_files.specs.Output.{WritesFront}
use Rattle.sms_send.specs.Sent.{FailsDriving, FailsInputOver, FailsOver, FailsPrinting, FailsWork, IsSent, IsUnsentFor, IsWorkDone, PrintsSent, SendingEnd, SendsWork, report_in}
use Rattle.sms_send.specs.Rounds.{OfARound, most_rounds}
use Rattle.sms_send.specs.Settings.{AreRunSettings}
use Rattle.sms_driver.specs.Starts.{TellsStart}
use Rattle.sms_driver.specs.declared.fault.SendFault.{SendFault}
use Rattle.sms_driver.specs.declared.fault.SendFault.TheVariants as send
use Rattle.sms_driver.specs.declared.start.StartPhase.{StartPhase}
use Rattle.sms_driver.specs.declared.settings.RunSettings.{RunSettings}
use Rattle.sms_book.specs.Tariffs.{Price}
use Rattle.sms_send.specs.Faults.{ComesAt, fault_of_sending, output_failed, unreported}
use Rattle.sms_send.specs.declared.faults.fault.Fault.{Fault}
use Rattle.sms_files.specs.declared.config.Config.{Config}
use Rattle.sms_files.specs.declared.input.Input.{Input}
use Rattle.sms_send.specs.declared.sending.sender.Ended.{Ended}
use Rattle.sms_send.specs.declared.sending.work.SentWork.{SentWork}
use Rattle.sms_send.specs.declared.sending.work.SentWork.TheVariants.{Resumed, Whole}
use Rattle.sms_send.specs.declared.sending.work.Work.{Work}
use Rattle.sms_send.specs.declared.sending.work.Work.TheVariants.{All, Left}
use Rattle.sms_send.specs.declared.args.send_args.Again.{Again}
use Rattle.sms_send.specs.Statuses.{IsStatusBy}
use Rattle.sms_send.proofs.Statuses.{is_status}
use Rattle.sms_send.proofs.Starts.{unwritten_at}
use Rattle.sms_driver.specs.declared.start_gate.Command.TheVariants.{Go}
use Rattle.sms_driver.specs.declared.start.StartPhase.TheVariants.{Released}

-- what holds of octets holds of the input that they are
pub beside : (finds : List ℕ → Option Told → Type 0) (name items octets : List ℕ) (P : List ℕ → Type 0)
    → OfFile finds name (λ bytes. items ≡ bytes) → octets ≡ items → P octets → OfFile finds name P
beside finds name items octets P (told, found, are) same holds = (told, found, IfSome_then told are (λ bytes is. subst P (same ∙ is) holds))

-- the report wasn't written: the output failed after the beginning of it, or memory was refused for it
pub unwritten_told : (refuses : ℕ → ℕ → Type 0) (tells : ℕ → ℕ → Told) (input : Input) (ended : Ended) (old new : Option (List ℕ)) (fault : Fault) → IsSent (tells 1) input ended
    → (fault ≡ output_failed) ⊎ (fault ≡ unreported) → (fault ≡ output_failed → WritesFront old new (report_in ended)) → (fault ≡ unreported → new ≡ old) → FailsInputOver refuses tells None input old new fault
unwritten_told refuses tells input ended old new fault sent (inl out) front quiet = inr (inl (out, ended, sent, front out))
unwritten_told refuses tells input ended old new fault sent (inr memory) front quiet = inr (inr (memory, ended, sent, quiet memory))

-- nothing was sent in the one round that there is
pub unsent_once : (refuses : ℕ → Type 0) (told : ℕ → Told) (config : Config) (begun : StartPhase) (fault : Fault) → FailsDriving refuses told config begun fault → OfARound 0 1 (λ round. IsUnsentFor refuses told config fault)
unsent_once refuses told config begun fault (f, is, starts, eq) = (1, omega arith, omega arith, (f, is, eq))

-- a fault of the driver comes in the phase in which the program's fault for it does
pub fault_at : (b : StartPhase) (f : SendFault) → TellsStart b f → ComesAt b (fault_of_sending f)
fault_at b (send.BindRefused bind status) h = h
fault_at b (send.BindFailed bind why) h = h
fault_at b (send.BookRefused why) h = inl h
fault_at b send.ThreadRefused h = inr h
fault_at b send.OutOfMemory h = h

-- what holds of as many binds and workers as a sending has holds of as many as its config says
pub for_settings : (config : Config) (tariff : List Price) (run : RunSettings) → AreRunSettings config tariff run → (P : ℕ → ℕ → Type 0) → P run.binds run.workers → P config.limits.binds config.limits.workers
for_settings config tariff run is P holds = subst (λ (b : ℕ). P b config.limits.workers) is.binds (subst (λ (w : ℕ). P run.binds w) is.workers holds)

-- one of three, from two of them
pub of_two : {A B C : Type 0} → A ⊎ B → A ⊎ (B ⊎ C)
of_two (inl a) = inl a
of_two (inr b) = inr (inl b)

-- nothing was written of a report but where the output failed
pub unwritten_quiet : {W : Type 0} (fault : Fault) (before after : W) → (fault ≡ output_failed) ⊎ (fault ≡ unreported) → (fault ≡ unreported → after ≡ before) → fault ≢ output_failed → after ≡ before
unwritten_quiet fault before after (inl out) quiet other = absurd (other out)
unwritten_quiet fault before after (inr memory) quiet other = quiet memory

-- ---- of what there is to send

pub work_sent : (tells : ℕ → ℕ → Told) (again : Option Again) (strict : Bool) (work : Work) (sent : SentWork) (old new : Option (List ℕ)) (status : ℕ)
    → IsWorkDone tells again work sent → PrintsSent strict sent old new status → SendsWork tells again strict work old new status
work_sent tells again strict (All input) (Whole ended) old new status done prints = record { ended = ended; sent = done; written = prints.written; status_is = prints.status_is }
work_sent tells again strict (All input) (Resumed run) old new status done prints = absurd done
work_sent tells again strict (Left run) (Whole ended) old new status done prints = absurd done
work_sent tells again strict (Left run) (Resumed resumed) old new status done prints = record { resumed = resumed; is = done; prints = prints }

pub work_unwritten : (refuses : ℕ → ℕ → Type 0) (tells : ℕ → ℕ → Told) (again : Option Again) (work : Work) (sent : SentWork) (old new : Option (List ℕ)) (fault : Fault)
    → IsWorkDone tells again work sent → FailsPrinting sent old new fault → FailsOver refuses tells again work old new fault
work_unwritten refuses tells again (All input) (Whole ended) old new fault done (inl (out, front)) = inr (inl (out, ended, done, front))
work_unwritten refuses tells again (All input) (Whole ended) old new fault done (inr (memory, same)) = inr (inr (memory, ended, done, same))
work_unwritten refuses tells again (All input) (Resumed run) old new fault done fails = absurd done
work_unwritten refuses tells again (Left run) (Whole ended) old new fault done fails = absurd done
work_unwritten refuses tells again (Left run) (Resumed resumed) old new fault done (inl (out, front)) = inr (inl (out, resumed, done, front))
work_unwritten refuses tells again (Left run) (Resumed resumed) old new fault done (inr (memory, same)) = inr (inr (memory, same))

-- what holds of one of the rounds, from what holds of it
pub of_a_round : (before most : ℕ) (P Q : ℕ → Type 0) → ((round : ℕ) → P round → Q round) → OfARound before most P → OfARound before most Q
of_a_round before most P Q gives (round, low, high, holds) = (round, low, high, gives round holds)

pub some_rounds : (again : Option Again) → 0 < most_rounds again
some_rounds None = omega arith
some_rounds (Some again) = omega arith

above : (before : ℕ) → before < before + 1
above before = omega arith

among : (before most : ℕ) → 0 < most → before + 1 ≤ before + most
among before most some = omega arith

-- it holds of the first of them
pub of_the_first : (again : Option Again) (before : ℕ) (P : ℕ → Type 0) → P (before + 1) → OfARound before (most_rounds again) P
of_the_first again before P holds = (before + 1, above before, among before (most_rounds again) (some_rounds again), holds)

pub work_unsent : (refuses : ℕ → ℕ → Type 0) (tells : ℕ → ℕ → Told) (again : Option Again) (work : Work) (begun : StartPhase) (same : Option (List ℕ)) (fault : Fault) → FailsWork refuses tells again work begun fault
    → FailsOver refuses tells again work same same fault
work_unsent refuses tells again (All input) begun same fault fails =
    inl (of_a_round 0 (most_rounds again) (λ round. FailsDriving (refuses round) (tells round) input.config begun fault) (λ round. IsUnsentFor (refuses round) (tells round) input.config fault) (λ round why. (why.0, why.1, why.3)) fails)
work_unsent refuses tells again (Left run) begun same fault (inl fails) =
    inl (of_a_round run.rounds (most_rounds again) (λ round. FailsDriving (refuses round) (tells round) run.config begun fault) (λ round. IsUnsentFor (refuses round) (tells round) run.config fault) (λ round why. (why.0, why.1, why.3)) fails)
work_unsent refuses tells again (Left run) begun same fault (inr late) = inr (inr (late.0, refl))

either : (sent : SentWork) (old new : Option (List ℕ)) (fault : Fault) → FailsPrinting sent old new fault → (fault ≡ output_failed) ⊎ (fault ≡ unreported)
either sent old new fault (inl out) = inl out.0
either sent old new fault (inr memory) = inr memory.0

printed_status : (strict : Bool) (sent : SentWork) (old new : Option (List ℕ)) (status : ℕ) → PrintsSent strict sent old new status → IsStatusBy strict status
printed_status strict (Whole ended) old new status prints = is_status strict ended.ends.items status prints.status_is
printed_status strict (Resumed run) old new status prints = is_status strict run.ends.items status prints.status_is

-- what there was to send was sent, and its report was printed or not
pub ended_printed : {W : Type 0} (r : Result ℕ Fault) (strict : Bool) (refuses : ℕ → ℕ → Type 0) (tells : ℕ → ℕ → Told) (again : Option Again) (work : Work) (sent : SentWork) (begun : StartPhase) (before after : W) (old new : Option (List ℕ))
    → IsWorkDone tells again work sent → begun ≡ Released Go → IfOk r (PrintsSent strict sent old new) → IfErr r (FailsPrinting sent old new) → IfErr r (λ fault. fault ≡ unreported → after ≡ before)
    → SendingEnd strict (SendsWork tells again strict work old new) (FailsOver refuses tells again work old new) begun before after r
ended_printed (Ok status) strict refuses tells again work sent begun before after old new done go prints fails quiet = record {
  sent = work_sent tells again strict work sent old new status done prints;
  status = printed_status strict sent old new status prints;
  started = go;
  refused = tt;
  phase = tt;
  unwritten = tt;
}
ended_printed (Err fault) strict refuses tells again work sent begun before after old new done go prints fails quiet = record {
  sent = tt;
  status = tt;
  started = tt;
  refused = work_unwritten refuses tells again work sent old new fault done fails;
  phase = unwritten_at begun fault go (either sent old new fault fails);
  unwritten = λ other kept. unwritten_quiet fault before after (either sent old new fault fails) quiet other;
}
