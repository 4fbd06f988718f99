-- What a checker of notes keeps of those that it has seen.
use Rattle.std.specs.Prelude.{◌≡◌, ◌⊎◌, ◌↔◌, ℕ, ◌-◌, ◌≤◌, ◌==◌, ◌&&◌, nat_eq, List, [], length, Option, Some, None, IsSome, slice_get, if◌then◌else◌}
use Rattle.std.specs.HashMap.{get}
use Rattle.sms_message.specs.declared.message.Message.{Message}
use Rattle.sms_message.specs.declared.rules.Rules.{Rules}
use Rattle.sms_message.specs.declared.ends.MessageRefusal.{MessageRefusal}
use Rattle.sms_journal.specs.declared.notes.note.RequestId.{RequestId}
use Rattle.sms_journal.specs.declared.notes.note.Note.{Note}
use Rattle.sms_journal.specs.declared.notes.note.Note.TheVariants.{Begun, Sent, Unsent, Heard, Refused, End, Round}
use Rattle.sms_journal.specs.declared.notes.run_size.RunSize.{RunSize}
use Rattle.sms_journal.specs.declared.notes.seen.Seen.{Seen}
use Rattle.sms_journal.specs.declared.notes.seen.Tries.{Tries}
use Rattle.sms_journal.specs.declared.notes.given.Given.{Given}
use Rattle.sms_journal.specs.declared.notes.dense_map.DenseMap.{DenseMap}
use Rattle.sms_journal.specs.DenseMap.{value_at, value_in}
use Rattle.sms_journal.specs.Index.{AreFates}
use Rattle.sms_journal.specs.Lawful.{HasParts, IsRetried, end_in, end_of, message_of, place_of, requests_of, sent_in, user_in, user_of}
use Rattle.sms_journal.specs.Recovered.{or_else, fate_in, fate_of, first_in, start_in, start_of}
use Rattle.sms_journal.specs.RunSize.{bind_of}

-- ---- messages by their indexes

-- the place of the message with this index
abbrev pub IsPlace : List Message → ℕ → Option ℕ → Type 0
IsPlace ms i None = message_of ms i ≡ None
IsPlace ms i (Some k) = (m : Message) × (slice_get ms k ≡ Some m) × (message_of ms i ≡ Some m)

abbrev pub ArePlaces : List Message → DenseMap ℕ → Type 0
ArePlaces ms places = (i : ℕ) → IsPlace ms i (value_at places i)

-- the places of indexes in a list
abbrev pub AreOrdered : List ℕ → DenseMap ℕ → Type 0
AreOrdered js order = (i : ℕ) → value_at order i ≡ place_of js i

-- the places of all messages, and those of the messages that the round was given
pub record IsGiven (ms : List Message) (g : Given) : Type 0 where
  pub places : ArePlaces ms g.places
  pub order : AreOrdered g.indexes.items g.order

-- ---- what a note makes of what is kept

-- the number of a worker's latest request
abbrev pub latest_in : ℕ → Note → Option ℕ → Option ℕ
latest_in worker (Begun m) kept = kept
latest_in worker (Sent request m p) kept = if request.worker == worker then Some request.number else kept
latest_in worker (Unsent request) kept = kept
latest_in worker (Heard by reply) kept = kept
latest_in worker (Refused m refusal) kept = kept
latest_in worker (End status) kept = kept
latest_in worker (Round number binds workers) kept = kept

-- how often a part may be sent yet, before another request for it
abbrev pub left_by : ℕ → Option Tries → ℕ
left_by attempts None = attempts
left_by attempts (Some tries) = tries.left

-- the latest request of a part, and how often it may be sent after that
abbrev pub tries_in : ℕ → ℕ → ℕ → Note → Option Tries → Option Tries
tries_in attempts m p (Begun m') kept = kept
tries_in attempts m p (Sent request m' p') kept = if p' == p && (m' == m) then Some (record { last = request; left = left_by attempts kept - 1 }) else kept
tries_in attempts m p (Unsent request) kept = kept
tries_in attempts m p (Heard by reply) kept = kept
tries_in attempts m p (Refused m' refusal) kept = kept
tries_in attempts m p (End status) kept = kept
tries_in attempts m p (Round number binds workers) kept = kept

-- how many parts a message has that was begun
abbrev pub count_in : ℕ → ℕ → Note → Option ℕ → Option ℕ
count_in count m (Begun m') kept = if m' == m then Some count else kept
count_in count m (Sent request m' p') kept = kept
count_in count m (Unsent request) kept = kept
count_in count m (Heard by reply) kept = kept
count_in count m (Refused m' refusal) kept = kept
count_in count m (End status) kept = kept
count_in count m (Round number binds workers) kept = kept

-- ---- what that says of the notes

-- it is the greatest of the worker's numbers
pub record IsGreatest (notes : List Note) (worker number : ℕ) : Type 0 where
  pub place : ℕ
  pub request : RequestId
  pub message : ℕ
  pub part : ℕ
  pub there : slice_get notes place ≡ Some (Sent request message part)
  pub its : request.worker ≡ worker
  pub is : request.number ≡ number
  pub greatest : (k : ℕ) (other : RequestId) (m p : ℕ) → slice_get notes k ≡ Some (Sent other m p) → other.worker ≡ worker → other.number ≤ number

abbrev pub IsLatest : List Note → ℕ → Option ℕ → Type 0
IsLatest notes worker None = (k : ℕ) (request : RequestId) (m p : ℕ) → slice_get notes k ≡ Some (Sent request m p) → request.worker ≡ worker → ⊥
IsLatest notes worker (Some number) = IsGreatest notes worker number

-- there is no request for the part
pub record IsUntried (notes : List Note) (m p : ℕ) : Type 0 where
  pub none : requests_of notes m p ≡ []
  pub nowhere : (k : ℕ) (request : RequestId) → slice_get notes k ≡ Some (Sent request m p) → ⊥

-- each request for the part but this one was answered by a retry status
pub record IsLast (notes : List Note) (m p : ℕ) (request : RequestId) : Type 0 where
  pub place : ℕ
  pub there : slice_get notes place ≡ Some (Sent request m p)
  pub others : (k : ℕ) (other : RequestId) → slice_get notes k ≡ Some (Sent other m p) → (other ≡ request) ⊎ IsRetried (fate_of notes other.worker other.number)

abbrev pub AreTries : Rules → List Note → ℕ → ℕ → Option Tries → Type 0
AreTries rules notes m p None = IsUntried notes m p
AreTries rules notes m p (Some tries) = IsLast notes m p tries.last × (tries.left ≡ rules.policy.attempts - length (requests_of notes m p))

abbrev pub IsCounted : Rules → RunSize → List Message → ℕ → Option ℕ → Type 0
IsCounted rules size ms i None = ⊥
IsCounted rules size ms i (Some count) = HasParts rules size ms i count

-- how each message was begun
abbrev pub HasStarts : List Note → DenseMap (Option MessageRefusal) → Type 0
HasStarts notes starts = (i : ℕ) → value_at starts i ≡ start_of notes i

-- a request was noted where its worker used its number: no other worker of its bind used that
pub record Sees (rules : Rules) (size : RunSize) (ms : List Message) (notes : List Note) (seen : Seen) : Type 0 where
  pub starts : HasStarts notes seen.starts
  pub counts : (i : ℕ) → start_of notes i ≡ Some None → IsCounted rules size ms i (value_at seen.counts i)
  pub sent : (worker number : ℕ) → IsSome (first_in (sent_in worker number) notes) ↔ (value_in seen.users (bind_of size worker) number ≡ Some worker)
  pub fates : AreFates notes seen.fates
  pub latest : (worker : ℕ) → IsLatest notes worker (get nat_eq seen.latest worker)
  pub users : (bind number : ℕ) → value_in seen.users bind number ≡ user_of size notes bind number
  pub tries : (m p : ℕ) → AreTries rules notes m p (value_in seen.tries p m)
  pub end : seen.end ≡ end_of notes

-- the count that is kept with the note of a message's beginning
abbrev pub IsCountFor : Rules → RunSize → List Message → Note → ℕ → Type 0
IsCountFor rules size ms (Begun i) count = HasParts rules size ms i count
IsCountFor rules size ms (Sent request i p) count = Unit {0}
IsCountFor rules size ms (Unsent request) count = Unit {0}
IsCountFor rules size ms (Heard by reply) count = Unit {0}
IsCountFor rules size ms (Refused i refusal) count = Unit {0}
IsCountFor rules size ms (End status) count = Unit {0}
IsCountFor rules size ms (Round number binds workers) count = Unit {0}

-- each map as it was with what the note makes of it
pub record IsKept (rules : Rules) (size : RunSize) (n : Note) (count : ℕ) (old new : Seen) : Type 0 where
  pub starts : (i : ℕ) → value_at new.starts i ≡ or_else (value_at old.starts i) (start_in i n)
  pub counts : (i : ℕ) → value_at new.counts i ≡ count_in count i n (value_at old.counts i)
  pub fates : (w k : ℕ) → value_in new.fates w k ≡ or_else (value_in old.fates w k) (fate_in w k n)
  pub latest : (w : ℕ) → get nat_eq new.latest w ≡ latest_in w n (get nat_eq old.latest w)
  pub users : (b k : ℕ) → value_in new.users b k ≡ or_else (value_in old.users b k) (user_in size b k n)
  pub tries : (m p : ℕ) → value_in new.tries p m ≡ tries_in rules.policy.attempts m p n (value_in old.tries p m)
  pub end : new.end ≡ or_else old.end (end_in n)
