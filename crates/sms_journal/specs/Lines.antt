-- The text of a journal and its notes: one relation.
use Rattle.std.specs.Prelude.{◌≡◌, ◌≢◌, ℕ, ◌+◌, ◌<◌, ◌≤◌, ◌==◌, ◌⊎◌, ⊤, Bool, true, false, List, [], ◌∷◌, ◌++◌, length, map, flat_map, position, Option, Some, None}
use Rattle.sms_journal.specs.declared.error.JournalError.{JournalError}
use Rattle.sms_journal.specs.declared.error.JournalError.TheVariants.{BadRecord, OtherFiles, BadNote, Overdrawn, OutOfMemory}
use Rattle.sms_journal.specs.declared.text.digests.RunFile.{RunFile}
use Rattle.sms_journal.specs.declared.text.digests.FileTies.{FileTies}
use Rattle.sms_journal.specs.declared.text.header.ConfigTie.{ConfigTie}
use Rattle.sms_journal.specs.declared.text.header.Digests.{Digests}
use Rattle.sms_journal.specs.declared.text.header.JournalKind.{JournalKind}
use Rattle.sms_journal.specs.declared.text.header.JournalKind.TheVariants.{Run}
use Rattle.sms_journal.specs.Digests.{AreDigests, DiffersFirst, IsTie, first_in_tie, keyed, tied_as}
use Rattle.sms_journal.specs.declared.notes.note.Note.{Note}
use Rattle.sms_journal.specs.declared.notes.note.Note.TheVariants.{Begun, Sent, Unsent, Heard, Refused, End, Round}
use Rattle.sms_journal.specs.Text.{header_text, note_text}

-- ---- notes that a run can write: their numbers are those of their fields

abbrev pub IsU64 : ℕ → Type 0
IsU64 n = n < 18446744073709551616

abbrev pub IsU32 : ℕ → Type 0
IsU32 n = n < 4294967296

-- a message_id is a C-Octet String (SMPP 3.4 3.1): none of its octets is 0
abbrev pub AreIdOctets : List ℕ → Type 0
AreIdOctets [] = ⊤
AreIdOctets (c ∷ cs) = (0 < c) × (c < 256) × AreIdOctets cs

-- and it has at most 64 (SMPP 3.4 5.2.23)
abbrev pub IsId : List ℕ → Type 0
IsId id = (length id ≤ 64) × AreIdOctets id

abbrev pub IsNote : Note → Type 0
IsNote (Begun m) = IsU64 m
IsNote (Sent request m p) = IsU32 request.worker × IsU32 request.number × IsU64 m × (p < 256)
IsNote (Unsent request) = IsU32 request.worker × IsU32 request.number
IsNote (Heard by reply) = IsU32 by × IsU32 reply.number × IsU32 reply.status × IsId reply.id
IsNote (Refused m refusal) = IsU64 m
IsNote (End status) = status < 256
IsNote (Round number binds workers) = IsU32 number × IsU32 binds × IsU32 workers

-- ---- lines

-- the note has this line at some time
abbrev pub IsLineOf : List ℕ → Note → Type 0
IsLineOf line note = (time : ℕ) × IsU64 time × (line ≡ note_text time note)

-- no note has this line, at no time
abbrev pub IsNoLine : List ℕ → Type 0
IsNoLine line = (time : ℕ) (note : Note) → IsU64 time → IsNote note → line ≢ note_text time note

abbrev pub IsRead : List ℕ → Option Note → Type 0
IsRead line None = IsNoLine line
IsRead line (Some note) = IsLineOf line note

-- where the first line feed stands
abbrev pub feed_at : List ℕ → Option ℕ
feed_at text = position (λ c. c == 10) text

-- the text begins with this line, whose last octet is the first line feed, and the rest comes after it
pub record BeginsWith (line rest text : List ℕ) : Type 0 where
  pub at : ℕ
  pub is : text ≡ line ++ rest
  pub feed : feed_at text ≡ Some at
  pub long : length line ≡ at + 1

-- the line of a note that was made at a time
abbrev pub timed_text : ℕ × Note → List ℕ
timed_text e = note_text e.0 e.1

abbrev pub AreU64 : List (ℕ × Note) → Type 0
AreU64 [] = ⊤
AreU64 (e ∷ es) = IsU64 e.0 × AreU64 es

-- these are lines of these notes, in order, and nothing else
pub record AreLines (text : List ℕ) (notes : List Note) : Type 0 where
  pub timed : List (ℕ × Note)
  pub times : AreU64 timed
  pub are : map (λ (e : ℕ × Note). e.1) timed ≡ notes
  pub is : text ≡ flat_map timed_text timed

-- the text is lines of these notes, and after them a truncated line, which doesn't count
pub record AreNotes (text : List ℕ) (notes : List Note) : Type 0 where
  pub lines : List ℕ
  pub cut : List ℕ
  pub are : AreLines lines notes
  pub is : text ≡ lines ++ cut
  pub whole : feed_at cut ≡ None

-- the record at this place of a journal, of which this text stands after the header, is the first that isn't the line of a note
pub record IsBadLine (place : ℕ) (text : List ℕ) : Type 0 where
  pub notes : List Note
  pub lines : List ℕ
  pub left : List ℕ
  pub line : List ℕ
  pub rest : List ℕ
  pub counted : place ≡ length notes + 2
  pub are : AreLines lines notes
  pub is : text ≡ lines ++ left
  pub begins : BeginsWith line rest left
  pub bad : IsNoLine line

-- ---- journals

-- the text begins with the header of a journal of this kind, of files with these digests
pub record IsBegun (kind : JournalKind) (digests : Digests) (text behind : List ℕ) : Type 0 where
  pub is : text ≡ header_text kind digests ++ behind

-- the text is a truncated header that says these digests
abbrev pub IsFrontOf : JournalKind → Digests → List ℕ → Type 0
IsFrontOf kind digests text = (rest : List ℕ) × (header_text kind digests ≡ text ++ rest)

abbrev pub IsFront : JournalKind → Digests → List ℕ → Bool → Type 0
IsFront kind digests text true = IsFrontOf kind digests text
IsFront kind digests text false = ¬ IsFrontOf kind digests text

-- or one of these files, tied to their config in one way or the other
abbrev pub TruncatesHeader : JournalKind → FileTies → List ℕ → Type 0
TruncatesHeader kind files text = IsFrontOf kind files.digests text ⊎ IsFrontOf kind (keyed files.keys files.digests) text

abbrev pub IsTruncated : JournalKind → FileTies → List ℕ → Bool → Type 0
IsTruncated kind files text true = TruncatesHeader kind files text
IsTruncated kind files text false = ¬ TruncatesHeader kind files text

-- so nothing was noted; where there is no octet the journal is of a run
pub record IsUnbegun (kind : JournalKind) (files : FileTies) (text : List ℕ) : Type 0 where
  pub truncated : TruncatesHeader kind files text
  pub empty : text ≡ [] → kind ≡ Run

-- the text begins with the header of a journal of these files, tied to their config so
pub record IsBegunSo (kind : JournalKind) (tie : ConfigTie) (files : FileTies) (text behind : List ℕ) : Type 0 where
  pub tied : IsTie tie
  pub begun : IsBegun kind (tied_as tie files) text behind
  pub same : (tied_as tie files).config ≡ tie

-- the text is a journal of this kind, of these files, that says these binds and workers of its run's first round, if any, and has these notes
abbrev pub IsJournalText : FileTies → List ℕ → JournalKind → Option (ℕ × ℕ) → List Note → Type 0
IsJournalText files text kind first notes =
    ((tie : ConfigTie) × (behind : List ℕ) × IsBegunSo kind tie files text behind × (first ≡ first_in_tie tie) × AreNotes behind notes)
    ⊎ (IsUnbegun kind files text × (first ≡ None) × (notes ≡ []))

-- the text begins with the header of a journal of others, of which this is the first that differs
pub record IsOfOthers (files : FileTies) (text : List ℕ) (what : RunFile) : Type 0 where
  pub kind : JournalKind
  pub others : Digests
  pub behind : List ℕ
  pub are : AreDigests others
  pub begun : IsBegun kind others text behind
  pub differs : DiffersFirst others (tied_as others.config files) what

-- its first record is no header, of whatever files, and the text isn't a truncated header of these files
pub record HasNoHeader (files : FileTies) (text : List ℕ) : Type 0 where
  pub begun : (kind : JournalKind) (others : Digests) (behind : List ℕ) → AreDigests others → text ≢ header_text kind others ++ behind
  pub unbegun : (kind : JournalKind) → IsTruncated kind files text false

-- the first faulty record of the text is the one at this place
abbrev pub IsBadRecord : FileTies → List ℕ → ℕ → Type 0
IsBadRecord files text place =
    ((place ≡ 1) × HasNoHeader files text) ⊎ ((kind : JournalKind) × (tie : ConfigTie) × (behind : List ℕ) × IsBegunSo kind tie files text behind × IsBadLine place behind)

-- what is wrong with it
abbrev pub IsFaultyText : FileTies → List ℕ → JournalError → Type 0
IsFaultyText files text (BadRecord place) = IsBadRecord files text place
IsFaultyText files text (OtherFiles what) = IsOfOthers files text what
IsFaultyText files text (BadNote place) = ⊥
IsFaultyText files text Overdrawn = ⊥
IsFaultyText files text (OutOfMemory refused) = ⊤

abbrev pub AreFaultyLines : List ℕ → JournalError → Type 0
AreFaultyLines text (BadRecord place) = IsBadLine place text
AreFaultyLines text (OtherFiles file) = ⊥
AreFaultyLines text (BadNote place) = ⊥
AreFaultyLines text Overdrawn = ⊥
AreFaultyLines text (OutOfMemory refused) = ⊤
