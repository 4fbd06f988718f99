-- What `delivered` prints of a run, and why it fails.
use Rattle.std.specs.Prelude.{◌≡◌, ◌⊎◌, ℕ, ◌+◌, List, [], ◌∷◌, ◌++◌, false, Option, Some, None, String, flat_map, string_bytes}
use Rattle.std.specs.declared.alloc.Global.{Global}
use Rattle.std.specs.Io.KnownBytes.{Appends}
use Rattle.sms_files.specs.Inputs.{Told}
use Rattle.sms_files.specs.Output.{WritesFront}
use Rattle.sms_inbox.specs.Delivered.{delivered_text}
use Rattle.sms_inbox.specs.Lines.{IsUnreadAt, Spells}
use Rattle.sms_inbox.specs.declared.delivered.ChargedPart.{ChargedPart}
use Rattle.sms_inbox.specs.declared.ids.Ids.{Ids}
use Rattle.sms_inbox.specs.declared.record.Record.{Record}
use Rattle.sms_journal.specs.Bill.{last_reply}
use Rattle.sms_journal.specs.Instants.{told_text}
use Rattle.sms_journal.specs.Sums.{parts_in}
use Rattle.sms_journal.specs.declared.recovery.resuming.JournaledRun.{JournaledRun}
use Rattle.sms_message.specs.declared.ends.MessageEnd.{MessageEnd}
use Rattle.sms_message.specs.declared.ends.Outcome.{Outcome}
use Rattle.sms_message.specs.declared.ends.Outcome.TheVariants.{Charged, Refused, Unanswered, Unsent}
use Rattle.sms_message.specs.declared.ends.SegmentEnd.{SegmentEnd}
use Rattle.sms_pdu.specs.declared.reply.Reply.{Reply}
use Rattle.sms_send.specs.Noted.{IsHeld}
use Rattle.sms_send.specs.Opened.{FailsReadingFile, OfFile}
use Rattle.sms_send.specs.Faults.{output_failed}
use Rattle.sms_send.specs.PlainFiles.{sees}
use Rattle.sms_send.specs.Resumed.{FailsResumed, IsJournaled}
use Rattle.sms_send.specs.Runs.{FailsRunFiles, IsRun}
use Rattle.sms_send.specs.declared.args.delivered_args.DeliveredArgs.{DeliveredArgs}
use Rattle.sms_send.specs.declared.faults.fault.Fault.{Fault}
use Rattle.sms_send.specs.declared.faults.fault.Fault.TheVariants.{BadReceived, OutOfMemory}
use Rattle.sms_send.specs.declared.files.run_files.RunFiles.{RunFiles}

-- ---- the parts that were charged

-- the part with this number, by the answer that charged it
abbrev pub answered_part : ℕ → ℕ → Option Reply → List ChargedPart
answered_part message part None = []
answered_part message part (Some reply) = record { message = message; part = part; id = reply.id } ∷ []

abbrev pub part_by : Outcome → ℕ → ℕ → Option Reply → List ChargedPart
part_by Charged message part reply = answered_part message part reply
part_by Refused message part reply = []
part_by Unanswered message part reply = []
part_by Unsent message part reply = []

-- those of a message, from a part on, in their order
abbrev pub charged_from : ℕ → ℕ → List (SegmentEnd (Unit {0})) → List ChargedPart
charged_from message part [] = []
charged_from message part (segment ∷ segments) = part_by segment.outcome message part (last_reply segment.attempts) ++ charged_from message (part + 1) segments

abbrev pub charged_of : MessageEnd (Unit {0}) → List ChargedPart
charged_of end = charged_from end.index 1 (parts_in end.result)

-- of all messages, in their order: parts are counted from 1
abbrev pub charged_parts : List (MessageEnd (Unit {0})) → List ChargedPart
charged_parts ends = flat_map charged_of ends

-- ---- the job

-- the journal of a name is of a run by the config of a name, and says this of it
abbrev pub IsRunAt : (List ℕ → Option Told → Type 0) → List ℕ → List ℕ → JournaledRun → Type 0
IsRunAt finds config journal run = (files : RunFiles) × IsRun finds config journal files × IsJournaled files run

-- it holds of the run that an order names, and of the octets of its inbox
abbrev pub OfOrder : (List ℕ → Option Told → Type 0) → DeliveredArgs → (JournaledRun → List ℕ → Type 0) → Type 0
OfOrder finds order holds =
    (run : JournaledRun) × IsRunAt (sees order.refs finds) (string_bytes order.config) (string_bytes order.journal) run × OfFile finds (string_bytes order.inbox) (holds run)

-- what is printed by these records for the parts that a run charged
abbrev pub printed : Ids → List Record → JournaledRun → List ℕ
printed ids records run = delivered_text told_text ids records (charged_parts run.ends.items)

-- by the records that the octets of an inbox spell
abbrev pub TellsDelivered : Ids → Option (List ℕ) → Option (List ℕ) → JournaledRun → List ℕ → Type 0
TellsDelivered ids old new run octets = (records : List Record) × Spells octets records × Appends old new (printed ids records run)

-- it was printed by the run and the inbox that an order names
abbrev pub DeliversBy : (List ℕ → Option Told → Type 0) → DeliveredArgs → Option (List ℕ) → Option (List ℕ) → Type 0
DeliversBy finds order old new = OfOrder finds order (TellsDelivered order.ids old new)

-- ---- why it fails

-- there is no such run: memory ran out, a file can't be read, or the journal is none of a run of the files
abbrev pub FailsRunAt : (List ℕ → Option Told → Type 0) → String Global → String Global → Fault → Type 0
FailsRunAt finds config journal fault =
    (fault ≡ OutOfMemory)
    ⊎ (FailsRunFiles finds config journal fault ⊎ ((files : RunFiles) × IsRun finds (string_bytes config) (string_bytes journal) files × FailsResumed false files fault))

-- octets are no inbox
abbrev pub IsBadInbox : Fault → List ℕ → Type 0
IsBadInbox fault octets = (place : ℕ) × IsUnreadAt place octets × (fault ≡ BadReceived place)

-- there is no such inbox: memory ran out, its file can't be read, or it is none
abbrev pub FailsInbox : (List ℕ → Option Told → Type 0) → String Global → Fault → Type 0
FailsInbox finds inbox fault = (fault ≡ OutOfMemory) ⊎ (FailsReadingFile finds inbox fault ⊎ OfFile finds (string_bytes inbox) (IsBadInbox fault))

-- the output failed behind the front of what is printed
abbrev pub BeginsDelivered : Ids → Option (List ℕ) → Option (List ℕ) → JournaledRun → List ℕ → Type 0
BeginsDelivered ids old new run octets = (records : List Record) × Spells octets records × WritesFront old new (printed ids records run)

-- there is no such run or no such inbox, or the output failed
abbrev pub FailsDeliverFree : (List ℕ → Option Told → Type 0) → DeliveredArgs → Option (List ℕ) → Option (List ℕ) → Fault → Type 0
FailsDeliverFree finds order old new fault =
    FailsRunAt (sees order.refs finds) order.config order.journal fault
    ⊎ (FailsInbox finds order.inbox fault ⊎ ((fault ≡ output_failed) × OfOrder finds order (BeginsDelivered order.ids old new)))

-- or a process holds the journal
abbrev pub FailsDelivered : (List ℕ → Type 0) → (List ℕ → Option Told → Type 0) → DeliveredArgs → Option (List ℕ) → Option (List ℕ) → Fault → Type 0
FailsDelivered holds finds order old new fault = IsHeld holds (string_bytes order.journal) fault ⊎ FailsDeliverFree finds order old new fault
