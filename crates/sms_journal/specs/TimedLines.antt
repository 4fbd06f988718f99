-- The lines behind a journal's first: their notes, and the times of these.
use Rattle.std.specs.Prelude.{◌≡◌, ◌⊎◌, ℕ, List, [], ◌∷◌, ◌++◌, length, flat_map, None}
use Rattle.sms_journal.specs.declared.notes.note.Note.{Note}
use Rattle.sms_journal.specs.Lines.{AreU64, BeginsWith, feed_at, timed_text}

-- each note with the time in its place
abbrev pub timed_by : List ℕ → List Note → List (ℕ × Note)
timed_by [] notes = []
timed_by (time ∷ times) [] = []
timed_by (time ∷ times) (note ∷ notes) = (time, note) ∷ timed_by times notes

-- these are lines of these notes at these times
pub record AreTimedLines (text times : List ℕ) (notes : List Note) : Type 0 where
  pub counted : length times ≡ length notes
  pub low : AreU64 (timed_by times notes)
  pub is : text ≡ flat_map timed_text (timed_by times notes)

-- the text is lines of these notes at these times, and after them a truncated line, which doesn't count
pub record AreTimedNotes (text times : List ℕ) (notes : List Note) : Type 0 where
  pub lines : List ℕ
  pub cut : List ℕ
  pub are : AreTimedLines lines times notes
  pub is : text ≡ lines ++ cut
  pub whole : feed_at cut ≡ None

-- this stands behind the text's first line
abbrev pub IsBehindFirst : List ℕ → List ℕ → Type 0
IsBehindFirst text rest = ((line : List ℕ) × BeginsWith line rest text) ⊎ ((feed_at text ≡ None) × (rest ≡ []))
