-- What a reader of a file's records has left, and what one read gives of it.
use Rattle.std.specs.Prelude.{◌≡◌, ◌⊎◌, ℕ, ◌+◌, nat_le, if◌then◌else◌, Bool, true, false, List, [], ◌∷◌, length, Option, None, Some, option_map, Result, Ok, Err}
use Rattle.csv.specs.Reading.{Ready, default_config, is_flexible, is_io, records_from, source_of, reader_config, reader_state, reader_trim}
use Rattle.csv.specs.declared.error.ErrorKind.{ErrorKind}
use Rattle.csv.specs.declared.error.ErrorKind.TheVariants as kind
use Rattle.csv.specs.declared.reader.Reader.{Reader}
use Rattle.csv.specs.declared.reader.Trim.TheVariants as trim
use Rattle.sms_pdu.specs.Devices.{device}
use Rattle.sms_files.specs.Faults.{IsDevice}
use Rattle.sms_files.specs.Fields.{Record}
use Rattle.sms_files.specs.declared.fault.InputFault.{InputFault}
use Rattle.sms_files.specs.declared.fault.InputFault.TheVariants.{BadRecord}
use Rattle.sms_files.specs.declared.fault.InputFault.TheVariants as told
use Rattle.sms_files.specs.declared.fault.Source.{Source}
use Rattle.sms_files.specs.declared.flaw.Flaw.{Flaw}
use Rattle.sms_files.specs.declared.flaw.Flaw.TheVariants.{Missing, OneTooMany}
use Rattle.sms_files.specs.declared.tables.csv_file.CsvFile.{CsvFile}
use Rattle.sms_files.specs.declared.tables.record_flaw.RecordFlaw.{RecordFlaw}
use Rattle.sms_files.specs.declared.tables.records.RowFault.{RowFault}
use Rattle.sms_files.specs.declared.tables.records.RowFault.TheVariants.{Flawed, OutOfMemory}

-- the reader gives every record as it stands, the first one too, and of whatever length
pub record ReadsAll {R : Type 0} (a : Reader R) : Type 0 where
  pub config : reader_config a ≡ default_config
  pub untrimmed : reader_trim a ≡ trim.None
  pub ready : Ready a
  pub flexible : is_flexible a ≡ true

-- an error of the reader underneath, or of memory
abbrev pub IsDeviceError : ErrorKind → Type 0
IsDeviceError k = (is_io k ≡ true) ⊎ (k ≡ kind.OutOfMemory)

-- the records that a reader has left, where the bytes underneath are known
abbrev pub reader_left : {R : Type 0} → (R → Option (List ℕ)) → Reader R → Option (List Record)
reader_left remaining a = option_map (λ bytes. records_from default_config (length bytes + 1) (reader_state a) bytes) (source_of remaining a)

-- the same of a reader of a file whose errors are counted
abbrev pub records_left : {R : Type 0} → (R → Option (List ℕ)) → Reader (CsvFile R) → Option (List Record)
records_left remaining a = reader_left (λ file. remaining (device file.tap)) a

-- a read finds the first of the records that are left, and none where none is left
abbrev pub GivesFirst : List Record → Bool → Record → Option (List Record) → Type 0
GivesFirst [] found r after = found ≡ false
GivesFirst (first ∷ rest) found r after = (found ≡ true) × (r ≡ first) × (after ≡ Some rest)

-- the record has no flaw and says this; or this is its flaw
abbrev pub IsReadAs : {T : Type 0} → (Record → Option Flaw) → (Record → T → Type 0) → Record → Result T RowFault → Type 0
IsReadAs flaw Says r (Ok x) = (flaw r ≡ None) × Says r x
IsReadAs flaw Says r (Err (Flawed is)) = flaw r ≡ Some is
IsReadAs flaw Says r (Err (OutOfMemory _)) = Unit {0}

-- the number of a faulty record, from 1, and what is wrong with it
abbrev pub Trouble : Type 0
Trouble = ℕ × Flaw

abbrev pub some_trouble : ℕ → Flaw → Option Trouble
some_trouble place flaw = Some (place, flaw)

-- the trouble with a record of this flaw, where `before` records stand before it; without a flaw that of those after it
abbrev pub trouble_by : ℕ → Option Flaw → Option Trouble → Option Trouble
trouble_by before None later = later
trouble_by before (Some flaw) later = Some (before + 1, flaw)

-- the first record that has a flaw or is one too many, where `before` records stand before it
abbrev pub record_fault : (Record → Option Flaw) → ℕ → ℕ → List Record → Option Trouble
record_fault flaw most before [] = None
record_fault flaw most before (r ∷ rs) =
    if nat_le before most then trouble_by before (flaw r) (record_fault flaw most (before + 1) rs) else Some (before + 1, OneTooMany)

-- the first record of a file that may not stand where it stands; a file has a first record
abbrev pub file_fault : (Record → Option Flaw) → (Record → Option Flaw) → ℕ → List Record → Option Trouble
file_fault first flaw most [] = Some (1, Missing)
file_fault first flaw most (r ∷ rs) = trouble_by 0 (first r) (record_fault flaw most 1 rs)

-- a fault names this record of a source, with this flaw
abbrev pub IsBadRecord : Source → ℕ → Flaw → InputFault → Type 0
IsBadRecord source place flaw f = (detail : RecordFlaw) × (f ≡ BadRecord source place detail) × (detail.flaw ≡ flaw)

-- a fault is of this record of a source, which is no row for this reason
abbrev pub IsRowFault : Source → ℕ → RowFault → InputFault → Type 0
IsRowFault source place (Flawed flaw) f = IsBadRecord source place flaw f
IsRowFault source place (OutOfMemory _) f = f ≡ told.OutOfMemory tt

-- what a fault says of a source's records, of which this is the first faulty one: that it is, and why, or that the device failed
abbrev pub TellsRecords : Source → Option Trouble → InputFault → Type 0
TellsRecords source faulty f =
    IsDevice source f ⊎ ((place : ℕ) × (flaw : Flaw) × IsBadRecord source place flaw f × (faulty ≡ Some (place, flaw)))
