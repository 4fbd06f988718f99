-- What holds of every list of notes, and of every lawful journal.
use Rattle.std.specs.Prelude.{◌≡◌, ℕ, ◌++◌, false, List, Some, slice_get}
use Rattle.std.specs.List.{AllByRecursion}
use Rattle.sms_core.specs.Statuses.{no_error}
use Rattle.sms_core.specs.Replies.{AreRetried}
use Rattle.sms_pdu.specs.declared.reply.Reply.{Reply}
use Rattle.sms_message.specs.declared.ends.Outcome.TheVariants.{Charged}
use Rattle.sms_message.specs.declared.message.Message.{Message}
use Rattle.sms_message.specs.declared.rules.Rules.{Rules}
use Rattle.sms_journal.specs.declared.notes.note.RequestId.{RequestId}
use Rattle.sms_journal.specs.declared.notes.note.Note.{Note}
use Rattle.sms_journal.specs.declared.notes.note.Note.TheVariants.{Sent, Heard}
use Rattle.sms_message.specs.declared.ends.SegmentEnd.{SegmentEnd}
use Rattle.sms_message.specs.declared.ends.MessageEnd.{MessageEnd}
use Rattle.sms_journal.specs.declared.notes.run_size.RunSize.{RunSize}
use Rattle.sms_journal.specs.Lawful.{IsJournal}
use Rattle.sms_journal.specs.Recovered.{answers_of, IsRecoveredSegment, IsRecoveredEnd}
use Rattle.sms_journal.specs.Lines.{AreNotes, IsNote, IsU64}
use Rattle.sms_journal.specs.Sums.{parts_in}
use Rattle.sms_journal.specs.Digests.{AreDigests}
use Rattle.sms_journal.specs.Text.{header_text, note_text}
use Rattle.sms_journal.specs.declared.text.header.Digests.{Digests}
use Rattle.sms_journal.specs.declared.text.header.JournalKind.{JournalKind}

-- a request for the part was noted, and that its worker received a submit_sm_resp with its number and ESME_ROK
pub record HasCharge (notes : List Note) (m p : ℕ) : Type 0 where
  pub request : RequestId
  pub reply : Reply
  pub sent : ℕ
  pub heard : ℕ
  pub is_sent : slice_get notes sent ≡ Some (Sent request m p)
  pub is_heard : slice_get notes heard ≡ Some (Heard request.worker reply)
  pub number : reply.number ≡ request.number
  pub status : reply.status ≡ no_error
  pub response : reply.nack ≡ false

-- each charge rests on such notes
abbrev pub ChargesAreAnswered : Type 0
ChargesAreAnswered = (rules : Rules) (notes : List Note) (m : Message) (p : ℕ) (s : SegmentEnd (Unit {0})) → IsRecoveredSegment rules notes m p s → s.outcome ≡ Charged → HasCharge notes m.index p

-- a charge stays one whatever is noted later, unless a request is noted after an answer that allows none
abbrev pub ChargesStay : Type 0
ChargesStay =
    (rules : Rules) (notes later : List Note) (m : Message) (p : ℕ) (s t : SegmentEnd (Unit {0})) → IsRecoveredSegment rules notes m p s → IsRecoveredSegment rules (notes ++ later) m p t
    → AreRetried (answers_of t.attempts) → s.outcome ≡ Charged → t.outcome ≡ Charged

-- the end of a message depends on the notes alone
abbrev pub EndsAreUnique : Type 0
EndsAreUnique = (rules : Rules) (notes : List Note) (m : Message) (e f : MessageEnd (Unit {0})) → IsRecoveredEnd rules notes m e → IsRecoveredEnd rules notes m f → e ≡ f

-- the part at this place is charged
pub record HasChargedPart (parts : List (SegmentEnd (Unit {0}))) (p : ℕ) : Type 0 where
  pub part : SegmentEnd (Unit {0})
  pub there : slice_get parts p ≡ Some part
  pub charged : part.outcome ≡ Charged

-- what the first notes of a lawful journal charge, the whole journal charges
abbrev pub ChargesStayCharges : Type 0
ChargesStayCharges =
    (rules : Rules) (size : RunSize) (ms : List Message) (notes later : List Note) (m : Message) (e f : MessageEnd (Unit {0})) (p : ℕ) → IsJournal rules size ms (notes ++ later)
    → IsRecoveredEnd rules notes m e → IsRecoveredEnd rules (notes ++ later) m f → HasChargedPart (parts_in e.result) p → HasChargedPart (parts_in f.result) p

-- the lines of two notes differ, and those of one note at two times
abbrev pub LinesAreOfOneNote : Type 0
LinesAreOfOneNote =
    (time other_time : ℕ) (note other : Note) → IsU64 time → IsU64 other_time → IsNote note → IsNote other → note_text time note ≡ note_text other_time other
    → (time ≡ other_time) × (note ≡ other)

-- a text is the lines of one list of notes
abbrev pub TextsAreUnique : Type 0
TextsAreUnique = (text : List ℕ) (notes others : List Note) → AllByRecursion IsNote notes → AllByRecursion IsNote others → AreNotes text notes → AreNotes text others → notes ≡ others

-- no text begins with two headers
abbrev pub HeadersAreOfOneJournal : Type 0
HeadersAreOfOneJournal =
    (text : List ℕ) (kind other : JournalKind) (digests others : Digests) (behind rest : List ℕ) → AreDigests digests → AreDigests others → text ≡ header_text kind digests ++ behind → text ≡ header_text other others ++ rest
    → (other ≡ kind) × (others ≡ digests)

-- the first notes of a lawful journal are a lawful journal
abbrev pub FrontsAreLawful : Type 0
FrontsAreLawful = (rules : Rules) (size : RunSize) (ms : List Message) (notes later : List Note) → IsJournal rules size ms (notes ++ later) → IsJournal rules size ms notes
