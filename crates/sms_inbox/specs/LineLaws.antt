-- What holds of every inbox's octets, by the definitions alone.
use Rattle.std.specs.Prelude.{⊤, take, ◌≡◌, ◌≢◌, ℕ, List, [], ◌∷◌, ◌++◌, flat_map}
use Rattle.sms_inbox.specs.declared.record.Record.{Record}
use Rattle.sms_inbox.specs.Lines.{AreLines, IsUnreadAt, IsWholeLength, Spells}
use Rattle.sms_inbox.specs.Record.{IsRecord, record_text}

abbrev pub AreRecords : List Record → Type 0
AreRecords [] = ⊤
AreRecords (r ∷ rs) = IsRecord r × AreRecords rs

-- the lines of records spell them
abbrev pub WrittenIsRead : Type 0
WrittenIsRead = (rs : List Record) → AreRecords rs → Spells (flat_map record_text rs) rs

-- octets spell one list of records
abbrev pub TextsSpellOnce : Type 0
TextsSpellOnce = (text : List ℕ) (rs others : List Record) → Spells text rs → Spells text others → rs ≡ others

-- the octets spell a prefix of these records
pub record SpellsPrefix (text : List ℕ) (rs : List Record) : Type 0 where
  pub front : List Record
  pub rest : List Record
  pub is : rs ≡ front ++ rest
  pub spells : Spells text front

-- each prefix of an inbox's octets spells a prefix of its records
abbrev pub PrefixesSpellPrefixes : Type 0
PrefixesSpellPrefixes = (text rest : List ℕ) (rs : List Record) → Spells (text ++ rest) rs → SpellsPrefix text rs

-- a line that was truncated loses its own record alone
abbrev pub CutsLoseOne : Type 0
CutsLoseOne = (text front rest : List ℕ) (rs : List Record) (r : Record) → AreLines text rs → IsRecord r → record_text r ≡ front ++ rest → rest ≢ [] → Spells (text ++ front) rs

-- a record's line after the whole lines of a file, of which a line that was truncated is cut off, makes it the inbox with that record
abbrev pub FilesGoOn : Type 0
FilesGoOn = (text : List ℕ) (n : ℕ) (rs : List Record) (r : Record) → Spells text rs → IsWholeLength text n → IsRecord r → Spells (take n text ++ record_text r) (rs ++ r ∷ [])

-- octets with a fault spell no records
abbrev pub FaultsSpellNone : Type 0
FaultsSpellNone = (text : List ℕ) (place : ℕ) (rs : List Record) → IsUnreadAt place text → Spells text rs → ⊥
