-- What a list of notes says of messages: the ends that a run would have reported if every connection had dropped just after the last note.
-- A message goes by its index, and a part by its number, from 1.
use Rattle.std.specs.Prelude.{◌≡◌, ℕ, ◌+◌, ◌==◌, ◌&&◌, List, [], ◌∷◌, length, map, Option, Some, None, flat_map, slice_get, string_bytes, if◌then◌else◌}
use Rattle.sms_core.specs.Replies.{outcome_of}
use Rattle.sms_core.specs.Replies as core
use Rattle.sms_pdu.specs.declared.reply.Reply.{Reply}
use Rattle.sms_book.specs.Tariffs.{cost_of}
use Rattle.sms_message.specs.declared.message.Message.{Message}
use Rattle.sms_message.specs.declared.rules.Rules.{Rules}
use Rattle.sms_message.specs.declared.ends.MessageRefusal.{MessageRefusal}
use Rattle.sms_message.specs.declared.ends.MessageRefusal.TheVariants.{BindClosed, TooLong}
use Rattle.sms_message.specs.Ends.{phase_of}
use Rattle.sms_segment.specs.Message.{IsTooLong}
use Rattle.sms_message.specs.Submits.{coded_text, message_parts, reference_of}
use Rattle.sms_message.specs.Admission.{IsShort}
use Rattle.sms_message.specs.Results.{read_reply}
use Rattle.sms_journal.specs.declared.notes.note.Note.{Note}
use Rattle.sms_journal.specs.declared.notes.note.Note.TheVariants.{Begun, Sent, Unsent, Heard, Refused, End, Round}
use Rattle.sms_message.specs.declared.ends.Attempt.{Attempt}
use Rattle.sms_message.specs.declared.ends.SegmentEnd.{SegmentEnd}
use Rattle.sms_message.specs.declared.ends.MessageResult.{MessageResult}
use Rattle.sms_message.specs.declared.ends.MessageEnd.{MessageEnd}
use Rattle.sms_message.specs.declared.ends.MessageResult.TheVariants as result

-- the first that f finds in a list
abbrev pub or_else : {X : Type 0} → Option X → Option X → Option X
or_else (Some x) other = Some x
or_else None other = other

abbrev pub first_in : {N X : Type 0} → (N → Option X) → List N → Option X
first_in f [] = None
first_in f (n ∷ ns) = or_else (f n) (first_in f ns)

-- what there is, as a list
abbrev pub listed : {X : Type 0} → Option X → List X
listed None = []
listed (Some x) = x ∷ []

-- ---- a request

-- the fate of a request by a note: None that it was not written to the connection, Some that it was answered
abbrev pub fate_in : ℕ → ℕ → Note → Option (Option Reply)
fate_in worker number (Begun m) = None
fate_in worker number (Sent request m p) = None
fate_in worker number (Unsent request) = if request.worker == worker && (request.number == number) then Some None else None
fate_in worker number (Heard by reply) = if by == worker && (reply.number == number) then Some (Some reply) else None
fate_in worker number (Refused m refusal) = None
fate_in worker number (End status) = None
fate_in worker number (Round round binds workers) = None

-- what the first note of that says
abbrev pub fate_of : List Note → ℕ → ℕ → Option (Option Reply)
fate_of notes worker number = first_in (fate_in worker number) notes

-- a request that the wire was handed, with its answer if there is one
abbrev pub attempts_with : ℕ → Option (Option Reply) → List (Attempt (Unit {0}))
attempts_with number None = record { number = number; sent = tt; reply = None } ∷ []
attempts_with number (Some None) = []
attempts_with number (Some (Some reply)) = record { number = number; sent = tt; reply = Some reply } ∷ []

-- ---- a part

-- the request for this part that a note is of
abbrev pub attempts_in : List Note → ℕ → ℕ → Note → List (Attempt (Unit {0}))
attempts_in notes m p (Begun m') = []
attempts_in notes m p (Sent request m' p') = if m' == m && (p' == p) then attempts_with request.number (fate_of notes request.worker request.number) else []
attempts_in notes m p (Unsent request) = []
attempts_in notes m p (Heard worker reply) = []
attempts_in notes m p (Refused m' refusal) = []
attempts_in notes m p (End status) = []
attempts_in notes m p (Round number binds workers) = []

-- all of them, in the order of the notes
abbrev pub attempts_of : List Note → ℕ → ℕ → List (Attempt (Unit {0}))
attempts_of notes m p = flat_map (attempts_in notes m p) notes

abbrev pub answers_of : List (Attempt (Unit {0})) → List (Option core.Reply)
answers_of attempts = map (λ t. read_reply t.reply) attempts

-- its cost, its requests, and what these come to
pub record IsRecoveredSegment (rules : Rules) (notes : List Note) (m : Message) (p : ℕ) (s : SegmentEnd (Unit {0})) : Type 0 where
  pub cost : s.cost ≡ cost_of rules.tariff (string_bytes m.dest)
  pub attempts : s.attempts ≡ attempts_of notes m.index p
  pub outcome : outcome_of (answers_of s.attempts) ≡ phase_of s.outcome

-- ---- a message

-- what a note says of how a message was begun: None that it was, Some that it was refused
abbrev pub start_in : ℕ → Note → Option (Option MessageRefusal)
start_in m (Begun m') = if m' == m then Some None else None
start_in m (Sent request m' p) = None
start_in m (Unsent request) = None
start_in m (Heard worker reply) = None
start_in m (Refused m' refusal) = if m' == m then Some (Some refusal) else None
start_in m (End status) = None
start_in m (Round number binds workers) = None

-- what the first note of that says
abbrev pub start_of : List Note → ℕ → Option (Option MessageRefusal)
start_of notes m = first_in (start_in m) notes

-- it was begun, and has a part for each of its cutting
pub record AreRecoveredSegments (rules : Rules) (notes : List Note) (m : Message) (parts : List (SegmentEnd (Unit {0}))) : Type 0 where
  pub begun : start_of notes m.index ≡ Some None
  pub short : IsShort rules m
  pub count : length parts ≡ length (message_parts rules m)
  pub each : (p : ℕ) (s : SegmentEnd (Unit {0})) → slice_get parts p ≡ Some s → IsRecoveredSegment rules notes m (p + 1) s

-- a message without a note of its beginning was not begun; one that has no cutting has no parts
abbrev pub IsRecoveredRefusal : Rules → Message → Option (Option MessageRefusal) → MessageRefusal → Type 0
IsRecoveredRefusal rules m None refusal = refusal ≡ BindClosed
IsRecoveredRefusal rules m (Some None) refusal = IsTooLong (coded_text m) (reference_of rules m) × (refusal ≡ TooLong)
IsRecoveredRefusal rules m (Some (Some noted)) refusal = refusal ≡ noted

abbrev pub IsRecoveredResult : Rules → List Note → Message → MessageResult (Unit {0}) → Type 0
IsRecoveredResult rules notes m (result.Sent parts) = AreRecoveredSegments rules notes m parts
IsRecoveredResult rules notes m (result.Refused refusal) = IsRecoveredRefusal rules m (start_of notes m.index) refusal

pub record IsRecoveredEnd (rules : Rules) (notes : List Note) (m : Message) (e : MessageEnd (Unit {0})) : Type 0 where
  pub index : e.index ≡ m.index
  pub result : IsRecoveredResult rules notes m e.result
