-- What is wrong with a record where it stands: which of its fields isn't what it should be, or what it has in common with one before it.
use Rattle.std.specs.Prelude.{◌≡◌, ◌<◌, ◌≤◌, ℕ, zero, suc, ◌+◌, ◌-◌, ◌&&◌, nat_le, nat_lt, Bool, true, false, List, [], ◌∷◌, length, Option, None, Some, if◌then◌else◌}
use Rattle.std.specs.Str.{bytes_eq}
use Rattle.sms_core.specs.Limits.{most_accounts}
use Rattle.sms_files.specs.Accounts.{account_flaw, accounts_fault, accounts_header_flaw, name_in}
use Rattle.sms_files.specs.FieldFlaws.{first_flaw}
use Rattle.sms_files.specs.Fields.{Field, Record, number_at}
use Rattle.sms_files.specs.Messages.{message_flaw, messages_fault, messages_header_flaw, most_messages}
use Rattle.sms_files.specs.Rates.{TellsTariff, most_rates, rate_flaw, rates_header_flaw}
use Rattle.sms_files.specs.Schedule.{event_flaw, most_events, schedule_fault, world_flaw}
use Rattle.sms_files.specs.declared.fault.InputFault.TheVariants.{BadRecord}
use Rattle.sms_files.specs.declared.fault.Source.{Source}
use Rattle.sms_files.specs.declared.fault.Source.TheVariants.{Schedule, Messages, Accounts, Tariff}
use Rattle.sms_files.specs.declared.flaw.Flaw.{Flaw}
use Rattle.sms_files.specs.declared.flaw.Flaw.TheVariants.{Missing, OneTooMany, NotNumber, NotDigits, Taken}
use Rattle.sms_files.specs.declared.tables.record_flaw.RecordFlaw.{RecordFlaw}

-- what no tariff takes of a rate by itself: its prefix has at most 20 digits, and its credits are 1 to 1,000
abbrev pub are_digits : List ℕ → Bool
are_digits [] = true
are_digits (c ∷ cs) = (nat_le 48 c && nat_le c 57) && are_digits cs

abbrev pub digits_flaw : Record → Option Flaw
digits_flaw r = if nat_le (length (name_in r)) 20 && are_digits (name_in r) then None else Some (NotDigits 1)

abbrev pub is_price : Option ℕ → Bool
is_price None = false
is_price (Some n) = nat_le 1 n && nat_le n 1_000

abbrev pub credits_flaw : Record → Option Flaw
credits_flaw r = if is_price (number_at 0xFFFF_FFFF r 1) then None else Some (NotNumber 2)

abbrev pub price_flaw : Record → Option Flaw
price_flaw r = first_flaw (digits_flaw r) (credits_flaw r)

-- by the place of a record, from 1: the first is another, and each later one is one of so many rows
abbrev pub placed_flaw : Option Flaw → ℕ → Option Flaw → ℕ → Option Flaw
placed_flaw first most row place = if nat_le place 1 then first else (if nat_lt (most + 1) place then Some OneTooMany else row)

-- by itself, of what stands where it stands
abbrev pub flaw_alone : Source → ℕ → Record → Option Flaw
flaw_alone Schedule place r = placed_flaw (world_flaw r) most_events (event_flaw r) place
flaw_alone Messages place r = placed_flaw (messages_header_flaw r) most_messages (message_flaw r) place
flaw_alone Accounts place r = placed_flaw (accounts_header_flaw r) most_accounts (account_flaw r) place
flaw_alone Tariff place r = placed_flaw (rates_header_flaw r) most_rates (first_flaw (rate_flaw r) (price_flaw r)) place

-- the first of so many records, the first of them of this number, that has the name
abbrev pub first_named : Field → ℕ → ℕ → List Record → Option Flaw
first_named name number zero rs = None
first_named name number (suc few) [] = None
first_named name number (suc few) (r ∷ rs) = if bytes_eq (name_in r) name then Some (Taken number) else first_named name (number + 1) few rs

-- a record after the header and before this place
abbrev pub named_before : Field → ℕ → List Record → Option Flaw
named_before name place [] = None
named_before name place (header ∷ rs) = first_named name 2 (place - 2) rs

-- by those before it: names of accounts and prefixes of rates are there once
abbrev pub flaw_beside : Source → Field → ℕ → List Record → Option Flaw
flaw_beside Schedule name place rs = None
flaw_beside Messages name place rs = None
flaw_beside Accounts name place rs = named_before name place rs
flaw_beside Tariff name place rs = named_before name place rs

-- the record after so many
abbrev pub record_behind : ℕ → List Record → Option Record
record_behind few [] = None
record_behind zero (r ∷ rs) = Some r
record_behind (suc few) (r ∷ rs) = record_behind few rs

abbrev pub flaw_there : Source → ℕ → List Record → Option Record → Option Flaw
flaw_there source place rs None = Some Missing
flaw_there source place rs (Some r) = first_flaw (flaw_alone source place r) (flaw_beside source (name_in r) place rs)

-- of the record at this place, from 1
abbrev pub flaw_at : Source → List Record → ℕ → Option Flaw
flaw_at source rs zero = Some Missing
flaw_at source rs (suc few) = flaw_there source (suc few) rs (record_behind few rs)

-- ---- a fault of a file names the first flaw

-- the record at this place has this flaw, and each before it is there and has none
abbrev pub IsFirstFlaw : Source → List Record → ℕ → Flaw → Type 0
IsFirstFlaw source rs place flaw = (flaw_at source rs place ≡ Some flaw) × ((k : ℕ) → 1 ≤ k → k < place → flaw_at source rs k ≡ None)

abbrev pub BadMessagesHaveFlaws : Type 0
BadMessagesHaveFlaws = (rs : List Record) (place : ℕ) (flaw : Flaw) → messages_fault rs ≡ Some (place, flaw) → IsFirstFlaw Messages rs place flaw

abbrev pub BadSchedulesHaveFlaws : Type 0
BadSchedulesHaveFlaws = (rs : List Record) (place : ℕ) (flaw : Flaw) → schedule_fault rs ≡ Some (place, flaw) → IsFirstFlaw Schedule rs place flaw

abbrev pub BadAccountsHaveFlaws : Type 0
BadAccountsHaveFlaws = (rs : List Record) (place : ℕ) (flaw : Flaw) → accounts_fault rs ≡ Some (place, flaw) → IsFirstFlaw Accounts rs place flaw

-- in a tariff a record before it may have one, too: prefixes and credits are looked at once all records are those of rates
abbrev pub BadRatesHaveFlaws : Type 0
BadRatesHaveFlaws =
    (rs : List Record) (place : ℕ) (detail : RecordFlaw) → TellsTariff rs (BadRecord Tariff place detail) → flaw_at Tariff rs place ≡ Some detail.flaw
