-- Journals that a run can have written: what each note asks of the notes before it.
use Rattle.std.specs.Prelude.{◌≡◌, ◌⊎◌, ℕ, ◌+◌, ◌==◌, ◌&&◌, ◌<◌, ◌≤◌, List, [], ◌∷◌, length, Option, Some, None, IsSome, true, false, slice_get, take, map, flat_map, if◌then◌else◌}
use Rattle.std.specs.List.{AllZip}
use Rattle.sms_core.specs.Limits.{top_number}
use Rattle.sms_core.specs.Replies.{is_retry}
use Rattle.sms_pdu.specs.declared.reply.Reply.{Reply}
use Rattle.sms_message.specs.declared.message.Message.{Message}
use Rattle.sms_message.specs.declared.rules.Rules.{Rules}
use Rattle.sms_message.specs.declared.ends.MessageEnd.{MessageEnd}
use Rattle.sms_message.specs.declared.ends.MessageRefusal.{MessageRefusal}
use Rattle.sms_message.specs.Submits.{HasAddresses, message_parts}
use Rattle.sms_message.specs.Admission.{IsKnown, IsRefusalOf, IsShort}
use Rattle.sms_files.specs.Report.{ends_status}
use Rattle.sms_files.specs.Whole.{are_whole}
use Rattle.sms_journal.specs.declared.notes.note.RequestId.{RequestId}
use Rattle.sms_journal.specs.declared.notes.note.Note.{Note}
use Rattle.sms_journal.specs.declared.notes.note.Note.TheVariants.{Begun, Sent, Unsent, Heard, Refused, End, Round}
use Rattle.sms_journal.specs.declared.notes.run_size.RunSize.{RunSize}
use Rattle.sms_journal.specs.Recovered.{IsRecoveredEnd, first_in, fate_of, start_of}
use Rattle.sms_journal.specs.RunSize.{IsDealt, all_workers, bind_of}

-- ---- the messages

abbrev pub with_index : ℕ → Message → Option Message
with_index i m = if m.index == i then Some m else None

-- the message with this index, the first where several have it
abbrev pub message_of : List Message → ℕ → Option Message
message_of ms i = first_in (with_index i) ms

-- the indexes of all of them
abbrev pub indexes_of : List Message → List ℕ
indexes_of ms = map (λ m. m.index) ms

-- where an index stands first
abbrev pub place_from : ℕ → List ℕ → ℕ → Option ℕ
place_from k [] i = None
place_from k (j ∷ js) i = if j == i then Some k else place_from (k + 1) js i

abbrev pub place_of : List ℕ → ℕ → Option ℕ
place_of js i = place_from 0 js i

-- the message with this index passes each check but that of its credits, and is cut into this number of parts
pub record HasParts (rules : Rules) (size : RunSize) (ms : List Message) (i count : ℕ) : Type 0 where
  pub message : Message
  pub is : message_of ms i ≡ Some message
  pub known : IsKnown size.accounts message.account
  pub addresses : HasAddresses message
  pub short : IsShort rules message
  pub count_is : count ≡ length (message_parts rules message)

-- the message with this index may be refused for this reason
pub record HasRefusal (rules : Rules) (size : RunSize) (ms : List Message) (i : ℕ) (refusal : MessageRefusal) : Type 0 where
  pub message : Message
  pub is : message_of ms i ≡ Some message
  pub says : IsRefusalOf rules size.accounts message refusal

-- of the messages that a round was given, by their indexes: its turn has come: neither was it begun or refused yet, nor is the message left over that its worker was dealt before it
pub record HasTurn (size : RunSize) (given : List ℕ) (notes : List Note) (i : ℕ) : Type 0 where
  pub place : ℕ
  pub there : place_of given i ≡ Some place
  pub first : start_of notes i ≡ None
  pub next : (before j : ℕ) → before + all_workers size ≡ place → slice_get given before ≡ Some j → IsSome (start_of notes j)

-- it is this worker's
pub record IsDealtTo (size : RunSize) (given : List ℕ) (i worker : ℕ) : Type 0 where
  pub place : ℕ
  pub there : place_of given i ≡ Some place
  pub its : IsDealt size place worker

-- ---- the requests

-- whether a note is of this request
abbrev pub sent_in : ℕ → ℕ → Note → Option Note
sent_in worker number (Begun m) = None
sent_in worker number (Sent request m p) = if request.worker == worker && (request.number == number) then Some (Sent request m p) else None
sent_in worker number (Unsent request) = None
sent_in worker number (Heard by reply) = None
sent_in worker number (Refused m refusal) = None
sent_in worker number (End status) = None
sent_in worker number (Round round binds workers) = None

-- the request was noted, and its fate was not
pub record IsOpen (notes : List Note) (worker number : ℕ) : Type 0 where
  pub sent : IsSome (first_in (sent_in worker number) notes)
  pub open_yet : fate_of notes worker number ≡ None

-- the worker that a note says to have used this number at this bind
abbrev pub user_in : RunSize → ℕ → ℕ → Note → Option ℕ
user_in size bind number (Begun m) = None
user_in size bind number (Sent request m p) = if bind_of size request.worker == bind && (request.number == number) then Some request.worker else None
user_in size bind number (Unsent request) = None
user_in size bind number (Heard by reply) = None
user_in size bind number (Refused m refusal) = None
user_in size bind number (End status) = None
user_in size bind number (Round round binds workers) = None

-- what the first such note says
abbrev pub user_of : RunSize → List Note → ℕ → ℕ → Option ℕ
user_of size notes bind number = first_in (user_in size bind number) notes

-- the number is above that of each request of its worker
abbrev pub IsAbove : List Note → RequestId → Type 0
IsAbove notes request = (k : ℕ) (other : RequestId) (m p : ℕ) → slice_get notes k ≡ Some (Sent other m p) → other.worker ≡ request.worker → other.number < request.number

-- a sequence_number for a new request (SMPP 3.4 5.1.4): above those of its worker, and unused at its bind
pub record IsNewNumber (size : RunSize) (notes : List Note) (request : RequestId) : Type 0 where
  pub from : 1 ≤ request.number
  pub to : request.number ≤ top_number
  pub above : IsAbove notes request
  pub unused : user_of size notes (bind_of size request.worker) request.number ≡ None

-- a request after which its part may be sent again: it was answered by a retry status
abbrev pub IsRetried : Option (Option Reply) → Type 0
IsRetried None = ⊥
IsRetried (Some None) = ⊥
IsRetried (Some (Some reply)) = is_retry reply.status reply.nack ≡ true

-- the request for this part that a note is of, and all of them
abbrev pub requests_in : ℕ → ℕ → Note → List RequestId
requests_in m p (Begun m') = []
requests_in m p (Sent request m' p') = if m' == m && (p' == p) then request ∷ [] else []
requests_in m p (Unsent request) = []
requests_in m p (Heard by reply) = []
requests_in m p (Refused m' refusal) = []
requests_in m p (End status) = []
requests_in m p (Round number binds workers) = []

abbrev pub requests_of : List Note → ℕ → ℕ → List RequestId
requests_of notes m p = flat_map (requests_in m p) notes

-- the part was sent less often than the rules allow, and may be sent again after each request for it
pub record MayTry (rules : Rules) (notes : List Note) (m p : ℕ) : Type 0 where
  pub few : length (requests_of notes m p) < rules.policy.attempts
  pub retried : (k : ℕ) (request : RequestId) → slice_get notes k ≡ Some (Sent request m p) → IsRetried (fate_of notes request.worker request.number)

-- a request for a part of a message that was begun, by the worker that the message was dealt to
pub record MaySend (rules : Rules) (size : RunSize) (ms : List Message) (given : List ℕ) (notes : List Note) (request : RequestId) (i p : ℕ) : Type 0 where
  pub begun : start_of notes i ≡ Some None
  pub dealt : IsDealtTo size given i request.worker
  pub count : ℕ
  pub parts : HasParts rules size ms i count
  pub from : 1 ≤ p
  pub to : p ≤ count
  pub number : IsNewNumber size notes request
  pub again : MayTry rules notes i p

-- ---- the end

-- the exit status by a note of the run's end, and by the first
abbrev pub end_in : Note → Option ℕ
end_in (Begun m) = None
end_in (Sent request m p) = None
end_in (Unsent request) = None
end_in (Heard by reply) = None
end_in (Refused m refusal) = None
end_in (End status) = Some status
end_in (Round number binds workers) = None

abbrev pub end_of : List Note → Option ℕ
end_of notes = first_in end_in notes

-- the exit status of a run with these ends: 4 where a part is unanswered, else 0, or 5 of a strict run that didn't send each message whole
abbrev pub IsStatusOf : List (MessageEnd (Unit {0})) → ℕ → Type 0
IsStatusOf ends status = (status ≡ ends_status ends) ⊎ ((status ≡ 5) × (ends_status ends ≡ 0) × (are_whole ends ≡ false))

-- each message that the round was given was begun or refused
abbrev pub AreStarted : List ℕ → List Note → Type 0
AreStarted given notes = (k i : ℕ) → slice_get given k ≡ Some i → IsSome (start_of notes i)

-- the run may end with this status: it is by what became of the messages
pub record MayEnd (rules : Rules) (ms : List Message) (given : List ℕ) (notes : List Note) (status : ℕ) : Type 0 where
  pub started : AreStarted given notes
  pub ends : List (MessageEnd (Unit {0}))
  pub are : AllZip (IsRecoveredEnd rules notes) ms ends
  pub status_is : IsStatusOf ends status

-- ---- a round

-- what a note asks while the round goes on
abbrev pub Follows : Rules → RunSize → List Message → List ℕ → List Note → Note → Type 0
Follows rules size ms given notes (Begun i) = HasTurn size given notes i × ((count : ℕ) × HasParts rules size ms i count)
Follows rules size ms given notes (Sent request i p) = MaySend rules size ms given notes request i p
Follows rules size ms given notes (Unsent request) = IsOpen notes request.worker request.number
Follows rules size ms given notes (Heard by reply) = IsOpen notes by reply.number
Follows rules size ms given notes (Refused i refusal) = HasTurn size given notes i × HasRefusal rules size ms i refusal
Follows rules size ms given notes (End status) = MayEnd rules ms given notes status
Follows rules size ms given notes (Round number binds workers) = ⊥

-- no note stands behind the run's end
pub record MayFollow (rules : Rules) (size : RunSize) (ms : List Message) (given : List ℕ) (notes : List Note) (n : Note) : Type 0 where
  pub going_on : end_of notes ≡ None
  pub follows : Follows rules size ms given notes n

-- each note of a round that was given these of the messages may follow those before it
abbrev pub IsRound : Rules → RunSize → List Message → List ℕ → List Note → Type 0
IsRound rules size ms given notes = (k : ℕ) (n : Note) → slice_get notes k ≡ Some n → MayFollow rules size ms given (take k notes) n

-- the first that may not has this place
pub record IsFirstOff (rules : Rules) (size : RunSize) (ms : List Message) (given : List ℕ) (notes : List Note) (k : ℕ) : Type 0 where
  pub front : IsRound rules size ms given (take k notes)
  pub note : Note
  pub there : slice_get notes k ≡ Some note
  pub refused : ¬ MayFollow rules size ms given (take k notes) note

-- ---- the journal of one round, which was given all messages

abbrev pub IsJournal : Rules → RunSize → List Message → List Note → Type 0
IsJournal rules size ms notes = IsRound rules size ms (indexes_of ms) notes

abbrev pub IsFirstFault : Rules → RunSize → List Message → List Note → ℕ → Type 0
IsFirstFault rules size ms notes k = IsFirstOff rules size ms (indexes_of ms) notes k
