-- The rows of a messages file, and the messages that they are.
use Rattle.std.specs.Prelude.{◌≡◌, ℕ, ◌+◌, suc, List, [], ◌∷◌, Option, Some, None, option_map, if◌then◌else◌, string_bytes}
use Rattle.std.specs.Str.{bytes_eq}
use Rattle.sms_message.specs.declared.message.Message.{Message}
use Rattle.sms_files.specs.Fields.{Field, Record}
use Rattle.sms_files.specs.Messages.{messages_fault}
use Rattle.sms_files.specs.declared.tables.message_rows.MessageRow.{MessageRow}

-- the row has the record's fields
abbrev pub HasFields : Record → MessageRow → Type 0
HasFields r row = string_bytes row.account ∷ (string_bytes row.source ∷ (string_bytes row.destination ∷ (string_bytes row.text ∷ []))) ≡ r

-- the place of the first account with this name
abbrev pub place_of : Field → List Field → Option ℕ
place_of name [] = None
place_of name (n ∷ ns) = if bytes_eq n name then Some 0 else option_map suc (place_of name ns)

-- the record is the message with this index, whose account is its place among these names
abbrev pub IsMessage : List Field → ℕ → Record → Message → Type 0
IsMessage names index r m =
    (account : Field) × (r ≡ account ∷ (string_bytes m.source ∷ (string_bytes m.dest ∷ (string_bytes m.text ∷ []))))
    × (m.account ≡ place_of account names) × (m.index ≡ index)

-- the records are these messages, counted on from an index
abbrev pub AreFrom : List Field → ℕ → List Record → List Message → Type 0
AreFrom names index [] [] = Unit {0}
AreFrom names index [] (m ∷ ms) = ⊥
AreFrom names index (r ∷ rs) [] = ⊥
AreFrom names index (r ∷ rs) (m ∷ ms) = IsMessage names index r m × AreFrom names (index + 1) rs ms

-- the records are a messages file of these messages
abbrev pub AreMessages : List Field → List Record → List Message → Type 0
AreMessages names [] ms = ⊥
AreMessages names (r ∷ rs) ms = (messages_fault (r ∷ rs) ≡ None) × AreFrom names 0 rs ms

-- the row is the message with this index, and so are these rows
abbrev pub Said : List Field → ℕ → MessageRow → Message → Type 0
Said names index row m =
    (m.index ≡ index) × (m.account ≡ place_of (string_bytes row.account) names) × (m.source ≡ row.source) × (m.dest ≡ row.destination) × (m.text ≡ row.text)

abbrev pub AreSaid : List Field → ℕ → List MessageRow → List Message → Type 0
AreSaid names index [] [] = Unit {0}
AreSaid names index [] (m ∷ ms) = ⊥
AreSaid names index (row ∷ rows) [] = ⊥
AreSaid names index (row ∷ rows) (m ∷ ms) = Said names index row m × AreSaid names (index + 1) rows ms
