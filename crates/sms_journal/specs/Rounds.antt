-- The journal of a run of several rounds. Each round binds anew and is given the messages that those before it left, in their order.
use Rattle.std.specs.Prelude.{◌≡◌, ◌⊎◌, ℕ, ◌+◌, ◌≤◌, ◌<◌, Bool, true, false, List, [], ◌∷◌, ◌++◌, Option, Some, None, slice_get, take, if◌then◌else◌}
use Rattle.std.specs.List.{AllZip}
use Rattle.sms_message.specs.declared.message.Message.{Message}
use Rattle.sms_message.specs.declared.rules.Rules.{Rules}
use Rattle.sms_message.specs.declared.ends.MessageEnd.{MessageEnd}
use Rattle.sms_message.specs.declared.ends.MessageRefusal.{MessageRefusal}
use Rattle.sms_journal.specs.declared.notes.note.RequestId.{RequestId}
use Rattle.sms_journal.specs.declared.notes.note.Note.{Note}
use Rattle.sms_journal.specs.declared.notes.note.Note.TheVariants.{Begun, Sent, Unsent, Heard, Refused, End, Round}
use Rattle.sms_journal.specs.declared.notes.run_size.RunSize.{RunSize}
use Rattle.sms_journal.specs.Lawful.{AreStarted, IsJournal, IsStatusOf, MayFollow, end_of, indexes_of}
use Rattle.sms_journal.specs.Left.{is_passing}
use Rattle.sms_journal.specs.Recovered.{IsRecoveredEnd, start_of}

-- ---- what a round leaves

-- by how it was begun a message is left: it was neither begun nor refused, or refused for a reason that says nothing of it
abbrev pub is_left_by : Option (Option MessageRefusal) → Bool
is_left_by None = true
is_left_by (Some None) = false
is_left_by (Some (Some refusal)) = is_passing refusal

abbrev pub is_left : List Note → ℕ → Bool
is_left notes i = is_left_by (start_of notes i)

-- those of these messages, by their indexes
abbrev pub left_after : List Note → List ℕ → List ℕ
left_after notes [] = []
left_after notes (i ∷ is) = if is_left notes i then i ∷ left_after notes is else left_after notes is

-- ---- the round that goes on

-- the number, binds and workers of the round that a note begins
abbrev pub round_in : Note → Option (ℕ × ℕ × ℕ)
round_in (Begun i) = None
round_in (Sent request i p) = None
round_in (Unsent request) = None
round_in (Heard by reply) = None
round_in (Refused i refusal) = None
round_in (End status) = None
round_in (Round number binds workers) = Some (number, binds, workers)

-- its number, its size, the messages that it was given, and what it noted
pub record Going : Type 0 where
  pub number : ℕ
  pub size : RunSize
  pub given : List ℕ
  pub notes : List Note

-- the first is given all messages
abbrev pub first_round : RunSize → List Message → Going
first_round size ms = record { number = 1; size = size; given = indexes_of ms; notes = [] }

abbrev pub noted : Going → Note → Going
noted g n = record { number = g.number; size = g.size; given = g.given; notes = g.notes ++ n ∷ [] }

-- the next has its own binds, and what the one before it left
abbrev pub next_round : Going → ℕ → ℕ → ℕ → Going
next_round g number binds workers = record { number = number; size = record { accounts = g.size.accounts; binds = binds; workers = workers }; given = left_after g.notes g.given; notes = [] }

abbrev pub going_by : Going → Note → Going
going_by g (Begun m) = noted g (Begun m)
going_by g (Sent request m p) = noted g (Sent request m p)
going_by g (Unsent request) = noted g (Unsent request)
going_by g (Heard by reply) = noted g (Heard by reply)
going_by g (Refused m refusal) = noted g (Refused m refusal)
going_by g (End status) = noted g (End status)
going_by g (Round number binds workers) = next_round g number binds workers

abbrev pub going_after : Going → List Note → Going
going_after g [] = g
going_after g (n ∷ ns) = going_after (going_by g n) ns

-- ---- the ends of messages

-- the notes by which the message with this index ended: those of the first round that didn't leave it, or of the last
abbrev pub told_from : ℕ → List Note → List Note → List Note
told_from i notes [] = notes
told_from i notes (Begun m ∷ ns) = told_from i (notes ++ Begun m ∷ []) ns
told_from i notes (Sent request m p ∷ ns) = told_from i (notes ++ Sent request m p ∷ []) ns
told_from i notes (Unsent request ∷ ns) = told_from i (notes ++ Unsent request ∷ []) ns
told_from i notes (Heard by reply ∷ ns) = told_from i (notes ++ Heard by reply ∷ []) ns
told_from i notes (Refused m refusal ∷ ns) = told_from i (notes ++ Refused m refusal ∷ []) ns
told_from i notes (End status ∷ ns) = told_from i (notes ++ End status ∷ []) ns
told_from i notes (Round number binds workers ∷ ns) = if is_left notes i then told_from i [] ns else notes

abbrev pub told_by : ℕ → List Note → List Note
told_by i notes = told_from i [] notes

-- the end of a message in a run that noted this, if all its lines had gone down then
abbrev pub IsRunEnd : Rules → List Note → Message → MessageEnd (Unit {0}) → Type 0
IsRunEnd rules notes m e = IsRecoveredEnd rules (told_by m.index notes) m e

-- ---- what a note asks of those before it

-- a further round has a bind to four, and a worker to eight at each
pub record IsNextRound (g : Going) (number binds workers : ℕ) : Type 0 where
  pub next : number ≡ g.number + 1
  pub some_binds : 1 ≤ binds
  pub few_binds : binds ≤ 4
  pub some_workers : 1 ≤ workers
  pub few_workers : workers ≤ 8

-- the run has its report: each message that the round was given was begun or refused, or the round is a further one that noted nothing, since no bind stood;
-- the status is by the ends of the whole run
pub record MayEndRun (rules : Rules) (ms : List Message) (before : List Note) (g : Going) (status : ℕ) : Type 0 where
  pub going_on : end_of g.notes ≡ None
  pub started : AreStarted g.given g.notes ⊎ ((1 < g.number) × (g.notes ≡ []))
  pub ends : List (MessageEnd (Unit {0}))
  pub are : AllZip (IsRunEnd rules before) ms ends
  pub status_is : IsStatusOf ends status

abbrev pub GoesOn : Rules → List Message → List Note → Going → Note → Type 0
GoesOn rules ms before g (Begun i) = MayFollow rules g.size ms g.given g.notes (Begun i)
GoesOn rules ms before g (Sent request i p) = MayFollow rules g.size ms g.given g.notes (Sent request i p)
GoesOn rules ms before g (Unsent request) = MayFollow rules g.size ms g.given g.notes (Unsent request)
GoesOn rules ms before g (Heard by reply) = MayFollow rules g.size ms g.given g.notes (Heard by reply)
GoesOn rules ms before g (Refused i refusal) = MayFollow rules g.size ms g.given g.notes (Refused i refusal)
GoesOn rules ms before g (End status) = MayEndRun rules ms before g status
GoesOn rules ms before g (Round number binds workers) = IsNextRound g number binds workers

abbrev pub MayGoOn : Rules → RunSize → List Message → List Note → Note → Type 0
MayGoOn rules size ms before n = GoesOn rules ms before (going_after (first_round size ms) before) n

-- ---- the journal of a run

-- each note may go on from those before it
abbrev pub IsRunJournal : Rules → RunSize → List Message → List Note → Type 0
IsRunJournal rules size ms notes = (k : ℕ) (n : Note) → slice_get notes k ≡ Some n → MayGoOn rules size ms (take k notes) n

-- the first that may not has this place
pub record IsFirstRunFault (rules : Rules) (size : RunSize) (ms : List Message) (notes : List Note) (k : ℕ) : Type 0 where
  pub front : IsRunJournal rules size ms (take k notes)
  pub note : Note
  pub there : slice_get notes k ≡ Some note
  pub refused : ¬ MayGoOn rules size ms (take k notes) note

-- ---- laws

-- the first notes of a run's journal are one
abbrev pub RunFrontsAreLawful : Type 0
RunFrontsAreLawful = (rules : Rules) (size : RunSize) (ms : List Message) (notes later : List Note) → IsRunJournal rules size ms (notes ++ later) → IsRunJournal rules size ms notes

-- no message is begun twice, in whatever rounds
abbrev pub NoneIsBegunTwice : Type 0
NoneIsBegunTwice =
    (rules : Rules) (size : RunSize) (ms : List Message) (notes : List Note) (j k i : ℕ) → IsRunJournal rules size ms notes → slice_get notes j ≡ Some (Begun i) → slice_get notes k ≡ Some (Begun i) → j ≡ k

-- a request is for a part of a message that its own round began: the message was begun before it, and no round began in between
pub record IsBegunBefore (notes : List Note) (i k : ℕ) : Type 0 where
  pub place : ℕ
  pub earlier : place < k
  pub there : slice_get notes place ≡ Some (Begun i)
  pub one_round : (l : ℕ) (n : Note) → place < l → l < k → slice_get notes l ≡ Some n → round_in n ≡ None

abbrev pub RequestsAreOfTheirRound : Type 0
RequestsAreOfTheirRound =
    (rules : Rules) (size : RunSize) (ms : List Message) (notes : List Note) (k i p : ℕ) (request : RequestId) → IsRunJournal rules size ms notes → slice_get notes k ≡ Some (Sent request i p) → IsBegunBefore notes i k

-- without a further round it is the journal of one
abbrev pub OneRoundIsAJournal : Type 0
OneRoundIsAJournal =
    (rules : Rules) (size : RunSize) (ms : List Message) (notes : List Note) → ((k : ℕ) (n : Note) → slice_get notes k ≡ Some n → round_in n ≡ None)
    → (IsRunJournal rules size ms notes → IsJournal rules size ms notes) × (IsJournal rules size ms notes → IsRunJournal rules size ms notes)

-- and the ends are those of its notes
abbrev pub OneRoundHasItsEnds : Type 0
OneRoundHasItsEnds =
    (notes : List Note) (i : ℕ) → ((k : ℕ) (n : Note) → slice_get notes k ≡ Some n → round_in n ≡ None) → told_by i notes ≡ notes
