-- What became of each part that was charged, by the records of an inbox.
use Rattle.std.specs.Prelude.{ℕ, ◌&&◌, not, Bool, false, ⊤, List, [], ◌∷◌, ◌++◌, Option, Some, None, unwrap_or, find, filter, flat_map, codes, decimal, if◌then◌else◌}
use Rattle.std.specs.Option.{option_or}
use Rattle.std.specs.Str.{bytes_eq}
use Rattle.sms_inbox.specs.declared.record.Record.{Record}
use Rattle.sms_inbox.specs.declared.delivered.ChargedPart.{ChargedPart}
use Rattle.sms_inbox.specs.declared.ids.Ids.{Ids}
use Rattle.sms_inbox.specs.Escape.{AreOctets}
use Rattle.sms_inbox.specs.Ids.{same_id}
use Rattle.sms_inbox.specs.Record.{number_field, octets_field}
use Rattle.sms_inbox.specs.State.{is_final}

-- ---- which record counts

abbrev pub last_of : List Record → Option Record
last_of [] = None
last_of (r ∷ rs) = Some (unwrap_or (last_of rs) r)

abbrev pub has_final : Record → Bool
has_final r = is_final r.state

-- of the records of one message, in the order in which they came: the first that has a final state, else the last
abbrev pub counting : List Record → Option Record
counting own = option_or (find has_final own) (last_of own)

abbrev pub is_of : Ids → List ℕ → Record → Bool
is_of ids id r = same_id ids id r.id

-- what was heard of the message that was answered by this id
abbrev pub heard : Ids → List Record → List ℕ → Option Record
heard ids records id = counting (filter (is_of ids id) records)

-- ---- the table

-- message, part and id
abbrev pub part_field : ChargedPart → List ℕ
part_field p = decimal p.message ++ number_field p.part ++ octets_field p.id

-- state, error and time, all empty where nothing was heard
abbrev pub heard_field : (ℕ → List ℕ) → Option Record → List ℕ
heard_field time_text None = codes ",,,"
heard_field time_text (Some r) = octets_field r.state ++ octets_field r.error ++ codes "," ++ time_text r.time

abbrev pub row_text : (ℕ → List ℕ) → Option Record → ChargedPart → List ℕ
row_text time_text heard p = part_field p ++ heard_field time_text heard ++ codes "\n"

abbrev pub row_of : (ℕ → List ℕ) → Ids → List Record → ChargedPart → List ℕ
row_of time_text ids records p = row_text time_text (heard ids records p.id) p

-- a header, and a record for each part, in their order
abbrev pub delivered_text : (ℕ → List ℕ) → Ids → List Record → List ChargedPart → List ℕ
delivered_text time_text ids records parts = codes "message,part,id,state,error,heard\n" ++ flat_map (row_of time_text ids records) parts

-- ---- record by record

abbrev pub is_over : Option Record → Bool
is_over None = false
is_over (Some r) = has_final r

-- a record that is of the message is kept unless a final one is
abbrev pub hear : Bool → Option Record → Record → Option Record
hear own kept r = if own && not (is_over kept) then Some r else kept

abbrev pub hear_all : (Record → Bool) → Option Record → List Record → Option Record
hear_all own kept [] = kept
hear_all own kept (r ∷ rs) = hear_all own (hear (own r) kept r) rs

abbrev pub is_keyed : List ℕ → Option (List ℕ) → Bool
is_keyed q None = false
is_keyed q (Some key) = bytes_eq key q

abbrev pub found : Option (List ℕ) → (List ℕ → Option Record) → Option Record
found None kept = None
found (Some key) kept = kept key

abbrev pub HaveOctets : List Record → Type 0
HaveOctets [] = ⊤
HaveOctets (r ∷ rs) = AreOctets r.id × HaveOctets rs
