-- A replay, from its parts.
use Rattle.std.proofs.Common.{◌≡◌, ◌∙◌, ℕ, List, Option, Some, None, IfSome}
use Rattle.sms_core.specs.declared.event.Event.{Event}
use Rattle.sms_core.specs.State.{State}
use Rattle.sms_files.specs.Fields.{records_of}
use Rattle.sms_send.specs.Replays.{OfReplay, PrintsRun}
use Rattle.sms_files.specs.Schedule.{AreSchedule, schedule_fault}

-- what is printed of the events of a schedule is what its replay prints
pub replayed : (o : Option (List ℕ)) (begun ended : State) (spelled events : List Event) (text : List ℕ)
    → IfSome o (λ bytes. AreSchedule (records_of bytes) begun spelled × (schedule_fault (records_of bytes) ≡ None))
    → events ≡ spelled → PrintsRun begun events ended text → IfSome o (OfReplay (λ printed. text ≡ printed))
replayed None begun ended spelled events text h e run = tt
replayed (Some bytes) begun ended spelled events text h e (answers, runs, printed) =
    (begun, events, answers, ended, rw e h.0, runs, printed)

-- the schedule of a replay has no faulty record
pub accepted : (o : Option (List ℕ)) (begun : State) (spelled : List Event)
    → IfSome o (λ bytes. AreSchedule (records_of bytes) begun spelled × (schedule_fault (records_of bytes) ≡ None))
    → IfSome o (λ bytes. schedule_fault (records_of bytes) ≡ None)
accepted None begun spelled h = tt
accepted (Some bytes) begun spelled h = h.1

-- what holds of what was written holds of what the replay prints
pub written : (P : List ℕ → Type 0) (o : Option (List ℕ)) (text out : List ℕ)
    → IfSome o (OfReplay (λ printed. text ≡ printed)) → out ≡ text → P out → IfSome o (OfReplay P)
written P None text out h e p = tt
written P (Some bytes) text out (begun, events, answers, ended, spells, runs, is) e p =
    (begun, events, answers, ended, spells, runs, rw (e ∙ is) at p)
