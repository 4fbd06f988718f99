-- What the check of a run's journal keeps of the round that goes on, and what it finds of its notes.
use Rattle.std.specs.Prelude.{◌≡◌, ◌≢◌, ℕ, ◌+◌, ◌-◌, ◌<◌, ◌≤◌, List, [], ◌∷◌, ◌++◌, length, drop, take, Some, None, slice_get, if◌then◌else◌}
use Rattle.std.specs.List.{AllZip}
use Rattle.sms_message.specs.declared.message.Message.{Message}
use Rattle.sms_message.specs.declared.rules.Rules.{Rules}
use Rattle.sms_message.specs.declared.ends.MessageEnd.{MessageEnd}
use Rattle.sms_journal.specs.declared.notes.note.Note.{Note}
use Rattle.sms_journal.specs.declared.notes.note.Note.TheVariants.{End}
use Rattle.sms_journal.specs.declared.notes.rounds.Current.{Current}
use Rattle.sms_journal.specs.declared.notes.run_check.LastRound.{LastRound}
use Rattle.sms_journal.specs.declared.notes.run_size.RunSize.{RunSize}
use Rattle.sms_journal.specs.Lawful.{end_in}
use Rattle.sms_journal.specs.Left.{is_left}
use Rattle.sms_journal.specs.Rounds.{Going, GoesOn, IsRunEnd, IsRunJournal, first_round, going_after, round_in}
use Rattle.sms_journal.specs.Seen.{IsGiven}

-- the notes from one place up to another
abbrev pub between : ℕ → ℕ → List Note → List Note
between from to notes = take (to - from) (drop from notes)

-- each of these notes may go on from those before it, where the round goes on after the notes `before`
abbrev pub AllGoOn : Rules → List Message → List Note → Going → List Note → Type 0
AllGoOn rules ms before g notes = (k : ℕ) (n : Note) → slice_get notes k ≡ Some n → GoesOn rules ms (before ++ take k notes) (going_after g (take k notes)) n

-- the first that may not has this place
pub record IsFirstStop (rules : Rules) (ms : List Message) (before : List Note) (g : Going) (notes : List Note) (k : ℕ) : Type 0 where
  pub front : AllGoOn rules ms before g (take k notes)
  pub note : Note
  pub there : slice_get notes k ≡ Some note
  pub refused : ¬ GoesOn rules ms (before ++ take k notes) (going_after g (take k notes)) note

-- none of them begins a round
abbrev pub AreOfOneRound : List Note → Type 0
AreOfOneRound notes = (k : ℕ) (n : Note) → slice_get notes k ≡ Some n → round_in n ≡ None

-- none of them is of the run's end
abbrev pub HaveNoEnd : List Note → Type 0
HaveNoEnd notes = (k : ℕ) (n : Note) → slice_get notes k ≡ Some n → end_in n ≡ None

-- the place of the first of a round's notes that is of the run's end, or their number
pub record IsEndAt (notes : List Note) (place : ℕ) : Type 0 where
  pub within : place ≤ length notes
  pub before : HaveNoEnd (take place notes)
  pub there : place < length notes → (status : ℕ) × (slice_get notes place ≡ Some (End status))

-- the round's notes stand behind those before it
pub record IsBehind (before round notes : List Note) : Type 0 where
  pub behind : (k : ℕ) → k ≤ length round → take (length before + k) notes ≡ before ++ take k round
  pub within : length before + length round ≤ length notes

-- the round that goes on, of which no note was read yet
abbrev pub going_of : Current → Going
going_of c = record { number = c.number; size = c.size; given = c.given.indexes.items; notes = [] }

-- all notes before it are lawful, and it goes on after them
pub record IsCurrent (rules : Rules) (size : RunSize) (ms : List Message) (notes : List Note) (c : Current) : Type 0 where
  pub within : c.from ≤ length notes
  pub lawful : IsRunJournal rules size ms (take c.from notes)
  pub goes : going_after (first_round size ms) (take c.from notes) ≡ going_of c
  pub given : IsGiven ms c.given

-- no round begins behind it, and its notes before its end are lawful
pub record IsLastRound (rules : Rules) (ms : List Message) (notes : List Note) (last : LastRound) : Type 0 where
  pub within : last.going.from ≤ length notes
  pub one : AreOfOneRound (between last.going.from (length notes) notes)
  pub end : IsEndAt (between last.going.from (length notes) notes) last.end
  pub goes : AllGoOn rules ms (take last.going.from notes) (going_of last.going) (take last.end (between last.going.from (length notes) notes))

-- with the notes of a whole round
abbrev pub noted_all : Going → List Note → Going
noted_all g notes = record { number = g.number; size = g.size; given = g.given; notes = g.notes ++ notes }

-- ---- ends

-- the ends that a later round gives in the place of those of the messages that were left
abbrev pub over : List (MessageEnd (Unit {0})) → List (MessageEnd (Unit {0})) → List (MessageEnd (Unit {0}))
over [] later = []
over (e ∷ es) [] = e ∷ es
over (e ∷ es) (l ∷ ls) = (if is_left e.result then l else e) ∷ over es ls

-- the first round's end from a place on
pub record IsRoundEnd (notes : List Note) (from to : ℕ) : Type 0 where
  pub from_is : from ≤ to
  pub within : to ≤ length notes
  pub free : AreOfOneRound (between from to notes)
  pub stops : (n : Note) → slice_get notes to ≡ Some n → round_in n ≢ None

-- these are the ends of the messages by the notes up to the end of the round that goes on at this place
pub record AreEndsAt (rules : Rules) (ms : List Message) (notes : List Note) (place : ℕ) (es : List (MessageEnd (Unit {0}))) : Type 0 where
  pub stop : ℕ
  pub is : IsRoundEnd notes place stop
  pub are : AllZip (IsRunEnd rules (take stop notes)) ms es
