-- What a replay is: the world's steps over the events of the schedule that the input's bytes spell, printed.
use Rattle.std.specs.Prelude.{◌≡◌, ℕ, List, Option}
use Rattle.std.specs.Io.KnownBytes.{Appends}
use Rattle.sms_core.specs.declared.event.Event.{Event}
use Rattle.sms_core.specs.declared.event.Step.{Step}
use Rattle.sms_core.specs.Histories.{Runs}
use Rattle.sms_core.specs.State.{State}
use Rattle.sms_files.specs.Fields.{Record, records_of}
use Rattle.sms_files.specs.Output.{WritesFront}
use Rattle.sms_files.specs.Records.{TellsRecords}
use Rattle.sms_send.specs.Faults.{IsReadFault}
use Rattle.sms_send.specs.Opened.{FailsFileJob}
use Rattle.sms_files.specs.Schedule.{AreSchedule, schedule_fault}
use Rattle.sms_files.specs.ReplayText.{replay_text}
use Rattle.sms_send.specs.declared.faults.fault.Fault.{Fault}
use Rattle.sms_files.specs.declared.fault.Source.TheVariants.{Schedule}

-- the events took the world from one state to another, and this is printed of them
abbrev pub PrintsRun : State → List Event → State → List ℕ → Type 0
PrintsRun begun events ended text = (answers : List Step) × Runs begun events answers ended × (text ≡ replay_text answers ended)

-- the input spells a schedule, and this holds of the text of its events' answers and of the world after them
abbrev pub OfReplay : (List ℕ → Type 0) → List ℕ → Type 0
OfReplay P bytes =
    (begun : State) × (events : List Event) × (answers : List Step) × (ended : State)
    × AreSchedule (records_of bytes) begun events × Runs begun events answers ended × P (replay_text answers ended)

-- that text was written and nothing else
abbrev pub Replays : List ℕ → Option (List ℕ) → Option (List ℕ) → Type 0
Replays bytes old new = OfReplay (Appends old new) bytes

-- the beginning of that text was written and nothing else
abbrev pub BeginsReplay : List ℕ → Option (List ℕ) → Option (List ℕ) → Type 0
BeginsReplay bytes old new = OfReplay (WritesFront old new) bytes

-- why an input isn't replayed before anything is written: a record that the fault names is the first that may not stand where it stands
abbrev pub FailsSchedule : List Record → Fault → Type 0
FailsSchedule rs = IsReadFault (TellsRecords Schedule (schedule_fault rs))

-- why a replay fails: a record that the fault names is the first that may not stand where it stands, and only the
-- output of a schedule can fail
abbrev pub FailsReplay : List Record → Fault → Type 0
FailsReplay rs = FailsFileJob Schedule (schedule_fault rs)
