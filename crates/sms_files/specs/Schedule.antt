-- A schedule: a first record that sets a world up, and a record for each event.
use Rattle.std.specs.Prelude.{◌≡◌, ◌≤◌, ℕ, ◌==◌, ◌&&◌, nat_le, not, Bool, List, [], ◌∷◌, length, Option, Some, None, if◌then◌else◌, Result, Ok, Err, codes}
use Rattle.std.specs.List.{AllZip}
use Rattle.std.specs.Str.{bytes_eq}
use Rattle.csv.specs.Records.{field_at}
use Rattle.sms_core.specs.declared.event.Event.{Event}
use Rattle.sms_core.specs.declared.event.Event.TheVariants.{TopUp, Reserve, Claim, Post, Respond, Settle, Expire, Discard, Release}
use Rattle.sms_core.specs.Limits.{most_accounts, most_slots, most_attempts}
use Rattle.sms_core.specs.State.{State, new_world}
use Rattle.sms_files.specs.FieldFlaws.{flaw_in, number_read}
use Rattle.sms_files.specs.Fields.{Field, Record}
use Rattle.sms_files.specs.Records.{Trouble, file_fault}
use Rattle.sms_files.specs.declared.flaw.Flaw.{Flaw}
use Rattle.sms_files.specs.declared.flaw.Flaw.TheVariants.{Fields, NotNumber, Word}
use Rattle.sms_files.specs.declared.tables.records.RowFault.{RowFault}
use Rattle.sms_files.specs.declared.tables.records.RowFault.TheVariants.{Flawed, OutOfMemory}

-- the greatest numbers of a field's type; a flag is 0 or 1
abbrev pub most_u32 : ℕ
most_u32 = 0xFFFF_FFFF

abbrev pub most_u64 : ℕ
most_u64 = 0xFFFF_FFFF_FFFF_FFFF

abbrev pub most_flag : ℕ
most_flag = 1

-- how many events a schedule has at the most
abbrev pub most_events : ℕ
most_events = 1_000_000

-- what follows of two results, each without a flaw; else the first flaw
abbrev pub and_then : {A B : Type 0} → (A → Result B Flaw) → Result A Flaw → Result B Flaw
and_then f (Ok x) = f x
and_then f (Err flaw) = Err flaw

abbrev pub and_map : {A B : Type 0} → (A → B) → Result A Flaw → Result B Flaw
and_map f (Ok x) = Ok (f x)
and_map f (Err flaw) = Err flaw

-- the numbers after the word of a record: exactly this many, the last at most `most`, the others below 2^32
abbrev pub one_number : Record → Result ℕ Flaw
one_number r = if length r == 2 then number_read most_u32 r 1 else Err (Fields (length r))

abbrev pub two_numbers : ℕ → Record → Result (ℕ × ℕ) Flaw
two_numbers most r =
    if length r == 3
    then and_then (λ a. and_map (λ b. (a, b)) (number_read most r 2)) (number_read most_u32 r 1)
    else Err (Fields (length r))

abbrev pub three_numbers : ℕ → Record → Result (ℕ × ℕ × ℕ) Flaw
three_numbers most r =
    if length r == 4
    then and_then (λ a. and_then (λ b. and_map (λ c. (a, b, c)) (number_read most r 3)) (number_read most_u32 r 2)) (number_read most_u32 r 1)
    else Err (Fields (length r))

-- the forms of a record after the word: the event that its numbers make
abbrev pub Form : Type 0
Form = Record → Result Event Flaw

abbrev pub one : (ℕ → Event) → Form
one event r = and_map event (one_number r)

abbrev pub two : (ℕ → ℕ → Event) → ℕ → Form
two event most r = and_map (λ n. event n.0 n.1) (two_numbers most r)

abbrev pub three : (ℕ → ℕ → ℕ → Event) → ℕ → Form
three event most r = and_map (λ n. event n.0 n.1 n.2) (three_numbers most r)

-- an answer, of which the last number says whether it is a generic_nack
abbrev pub respond_form : Form
respond_form = three (λ number status nack. Respond number status (nack == 1)) most_flag

-- the forms of the events of a worker at a slot, by the record's first field
abbrev pub slot_forms : List (List ℕ × Form)
slot_forms =
    (codes "claim", two Claim most_u32)
    ∷ (codes "settle", two Settle most_u32)
    ∷ (codes "expire", two Expire most_u32)
    ∷ (codes "release", two Release most_u32)
    ∷ []

-- those, and the forms of the events on a request that there is
abbrev pub request_forms : List (List ℕ × Form)
request_forms =
    (codes "post", three Post most_u32)
    ∷ (codes "respond", respond_form)
    ∷ (codes "discard", one Discard)
    ∷ slot_forms

-- the forms of all events
abbrev pub forms : List (List ℕ × Form)
forms =
    (codes "topup", two TopUp most_u64)
    ∷ (codes "reserve", three Reserve most_u32)
    ∷ request_forms

-- what the first form of that word makes of a record
abbrev pub made_by : List (List ℕ × Form) → List ℕ → Record → Result Event Flaw
made_by [] word r = Err Word
made_by (form ∷ rest) word r = if bytes_eq word form.0 then form.1 r else made_by rest word r

-- what a record makes by its word, of which there is one
abbrev pub worded : {A : Type 0} → (List ℕ → Record → Result A Flaw) → Record → Option Field → Result A Flaw
worded make r None = Err Word
worded make r (Some word) = make word r

-- the event that a record spells, or its flaw
abbrev pub event_of : Record → Result Event Flaw
event_of r = worded (made_by forms) r (field_at r 0)

abbrev pub event_flaw : Record → Option Flaw
event_flaw r = flaw_in (event_of r)

-- of the accounts, the slots and the attempts of a world the first that there may not be
abbrev pub within : ℕ → ℕ → Bool
within most n = nat_le 1 n && nat_le n most

abbrev pub limits_flaw : ℕ → ℕ → ℕ → Option Flaw
limits_flaw accounts slots attempts =
    if not (within most_accounts accounts) then Some (NotNumber 2) else (
    if not (within most_slots slots) then Some (NotNumber 3) else (
    if not (within most_attempts attempts) then Some (NotNumber 4) else None))

-- the numbers of the record that sets the world up
abbrev pub limits_by : List ℕ → Record → Result (ℕ × ℕ × ℕ) Flaw
limits_by word r = if bytes_eq word (codes "world") then three_numbers most_u32 r else Err Word

abbrev pub limits_of : Record → Result (ℕ × ℕ × ℕ) Flaw
limits_of r = worded limits_by r (field_at r 0)

-- the world of these numbers, where they have no flaw
abbrev pub world_with : ℕ × ℕ × ℕ → Option Flaw → Result State Flaw
world_with n None = Ok (new_world n.0 n.1 n.2)
world_with n (Some flaw) = Err flaw

-- the world that a record sets up, or its flaw
abbrev pub world_of : Record → Result State Flaw
world_of r = and_then (λ n. world_with n (limits_flaw n.0 n.1 n.2)) (limits_of r)

abbrev pub world_flaw : Record → Option Flaw
world_flaw r = flaw_in (world_of r)

-- the record spells this event
abbrev pub Spells : Record → Event → Type 0
Spells r event = event_of r ≡ Ok event

-- the first record that may not stand where it stands, by its number from 1, and its flaw
abbrev pub schedule_fault : List Record → Option Trouble
schedule_fault = file_fault world_flaw event_flaw most_events

-- the records are a schedule of this world and these events, one of each record after the first
abbrev pub AreSchedule : List Record → State → List Event → Type 0
AreSchedule [] w events = ⊥
AreSchedule (r ∷ rs) w events = (world_of r ≡ Ok w) × AllZip Spells rs events × (length events ≤ most_events)

-- the world that a record sets up was made, or the record has this flaw, or memory was refused
abbrev pub MakesWorld : Record → Result State RowFault → Type 0
MakesWorld r (Ok w) = world_of r ≡ Ok w
MakesWorld r (Err (Flawed flaw)) = world_of r ≡ Err flaw
MakesWorld r (Err (OutOfMemory _)) = Unit {0}
