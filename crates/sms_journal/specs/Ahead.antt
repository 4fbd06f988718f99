-- What is read of a journal before it is known of what files it is.
use Rattle.std.specs.Prelude.{◌≡◌, ◌≢◌, ◌++◌, ℕ, Bool, true, false, List, Option, Some, None, IfOk, IfErr}
use Rattle.sms_journal.specs.declared.text.header.Digests.{Digests}
use Rattle.sms_journal.specs.declared.text.header.JournalKind.{JournalKind}
use Rattle.sms_journal.specs.declared.text.reader.LinesRead.{LinesRead}
use Rattle.sms_journal.specs.Digests.{AreDigests}
use Rattle.sms_journal.specs.Lines.{AreFaultyLines, AreNotes}
use Rattle.sms_journal.specs.Text.{header_text}

-- the text begins with the header that was read, and the lines behind it say this
pub record IsAhead (text : List ℕ) (read : LinesRead) : Type 0 where
  pub behind : List ℕ
  pub are : AreDigests read.digests
  pub is : text ≡ header_text read.kind read.digests ++ behind
  pub notes : IfOk read.lines (λ notes. AreNotes behind notes.items)
  pub faulty : IfErr read.lines (AreFaultyLines behind)

-- or it begins with no header, whatever files it is of
abbrev pub IsReadAhead : List ℕ → Option LinesRead → Type 0
IsReadAhead text None = (kind : JournalKind) (digests : Digests) (behind : List ℕ) → AreDigests digests → text ≢ header_text kind digests ++ behind
IsReadAhead text (Some read) = IsAhead text read

-- the tariff of these octets, where it is given
abbrev pub tariff_by : Bool → List ℕ → Option (List ℕ)
tariff_by false octets = None
tariff_by true octets = Some octets
