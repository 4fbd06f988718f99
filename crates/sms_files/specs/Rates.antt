-- A tariff file: a header, and a record for each rate with its prefix and its credits.
use Rattle.std.specs.Prelude.{◌≡◌, ◌⊎◌, ℕ, ◌+◌, ◌==◌, Bool, List, length, Option, Some, None, if◌then◌else◌, codes, string_bytes}
use Rattle.sms_book.specs.declared.error.TariffError.{TariffError}
use Rattle.sms_book.specs.declared.error.TariffError.TheVariants.{TooMany, BadPrefix, BadCredits, Duplicate, OutOfMemory}
use Rattle.sms_book.specs.declared.rate.Rate.{Rate}
use Rattle.sms_book.specs.Tariffs.{IsTariff, Price, Refuses, prices_of}
use Rattle.sms_files.specs.Fields.{Record, number_at, text_in}
use Rattle.sms_files.specs.FieldFlaws.{first_flaw, number_flaw, text_flaw}
use Rattle.sms_files.specs.Records.{IsBadRecord, TellsRecords, Trouble, file_fault}
use Rattle.sms_files.specs.Rows.{AreRows, header_of, is_pair}
use Rattle.sms_files.specs.declared.fault.InputFault.{InputFault}
use Rattle.sms_files.specs.declared.fault.InputFault.TheVariants as told
use Rattle.sms_files.specs.declared.fault.Source.TheVariants.{Tariff}
use Rattle.sms_files.specs.declared.flaw.Flaw.{Flaw}
use Rattle.sms_files.specs.declared.memory.calls.NoTariff.{NoTariff}
use Rattle.sms_files.specs.declared.memory.calls.NoTariff.TheVariants as none
use Rattle.sms_files.specs.declared.flaw.Flaw.TheVariants.{Fields, NotDigits, NotNumber, OneTooMany, Taken}

-- how many rates a file has at the most
abbrev pub most_rates : ℕ
most_rates = 1_000

abbrev pub is_rates_header : Record → Bool
is_rates_header = is_pair (codes "prefix") (codes "credits")

-- a first record that isn't it
abbrev pub rates_header_flaw : Record → Option Flaw
rates_header_flaw = header_of is_rates_header

-- a text and a number
abbrev pub rate_flaw : Record → Option Flaw
rate_flaw r = if length r == 2 then first_flaw (text_flaw r 0) (number_flaw 0xFFFF_FFFF r 1) else Some (Fields (length r))

abbrev pub SaysRate : Record → Rate → Type 0
SaysRate r rate = (text_in r 0 ≡ Some (string_bytes rate.prefix)) × (number_at 0xFFFF_FFFF r 1 ≡ Some rate.credits)

-- the record is one of a rate with this prefix and these credits
abbrev pub IsRate : Record → List ℕ → ℕ → Type 0
IsRate r prefix credits = (rate_flaw r ≡ None) × (text_in r 0 ≡ Some prefix) × (number_at 0xFFFF_FFFF r 1 ≡ Some credits)

-- the records are those of these rates
abbrev pub AreRates : List Record → List Rate → Type 0
AreRates = AreRows rates_header_flaw rate_flaw SaysRate most_rates

-- the records are a tariff file, and this is its tariff
abbrev pub IsTariffFile : List Record → List Price → Type 0
IsTariffFile rs tariff = (rates : List Rate) × AreRates rs rates × (tariff ≡ prices_of rates) × IsTariff tariff

-- the place of the rate that no tariff takes beside those before it, and why; that of the first too many is the most that there may be
abbrev pub trouble_of : TariffError → Option Trouble
trouble_of TooMany = Some (most_rates, OneTooMany)
trouble_of (BadPrefix place) = Some (place, NotDigits 1)
trouble_of (BadCredits place) = Some (place, NotNumber 2)
trouble_of (Duplicate first second) = Some (second, Taken (first + 2))
trouble_of OutOfMemory = None

-- the rates are refused for the one at this place, whose record comes after the header and the rates before it
abbrev pub RefusesAt : List Price → InputFault → Type 0
RefusesAt prices fault =
    (e : TariffError) × (place : ℕ) × (flaw : Flaw) × Refuses prices e × (trouble_of e ≡ Some (place, flaw)) × IsBadRecord Tariff (place + 2) flaw fault

-- why no tariff is made of rates: none takes them, or memory was refused
abbrev pub IsNoTariff : List Price → NoTariff → Type 0
IsNoTariff prices (none.Refused e) = Refuses prices e
IsNoTariff prices (none.OutOfMemory _) = Unit {0}

-- what a fault says of rates that are no tariff: that, or that memory was refused
abbrev pub TellsPrices : List Price → InputFault → Type 0
TellsPrices prices fault = (fault ≡ told.OutOfMemory tt) ⊎ RefusesAt prices fault

-- the records are rates, and the fault says why these are no tariff
abbrev pub TellsRates : List Record → InputFault → Type 0
TellsRates rs fault = (rates : List Rate) × AreRates rs rates × TellsPrices (prices_of rates) fault

-- the first record that isn't a rate's, by its number from 1, and its flaw
abbrev pub rates_fault : List Record → Option Trouble
rates_fault = file_fault rates_header_flaw rate_flaw most_rates

-- what a fault says of a tariff file's records: the first that isn't a rate's, or where all are, why they are no tariff
abbrev pub TellsTariff : List Record → InputFault → Type 0
TellsTariff rs fault = TellsRecords Tariff (rates_fault rs) fault ⊎ TellsRates rs fault
