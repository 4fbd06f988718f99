-- A run whose messages file has a column `ref`, and the same run without that column.
use Rattle.std.specs.Prelude.{◌≡◌, Bool, true, false, List, String, map, string_bytes}
use Rattle.std.specs.declared.alloc.Global.{Global}
use Rattle.sms_files.specs.Fields.{records_of}
use Rattle.sms_files.specs.Records.{TellsRecords}
use Rattle.sms_files.specs.Refs.{AreTaken, refs_fault}
use Rattle.sms_files.specs.declared.fault.Source.TheVariants.{Messages}
use Rattle.sms_send.specs.Faults.{IsReadFault}
use Rattle.sms_send.specs.declared.faults.fault.Fault.{Fault}
use Rattle.sms_send.specs.declared.files.run_files.RunFiles.{RunFiles}

-- the files of a run, with these messages in the place of those that were read: what is left of them without their references
pub record IsWithoutRefs (run plain : RunFiles) (refs : List (String Global)) : Type 0 where
  pub taken : AreTaken (records_of run.named.messages.items) plain.named.messages.items (map string_bytes refs)
  pub config : plain.config ≡ run.config
  pub names : plain.names ≡ run.names
  pub accounts : plain.named.accounts ≡ run.named.accounts
  pub tariff : plain.named.tariff ≡ run.named.tariff
  pub written : plain.written ≡ run.written

-- why there is no such run: a record of its messages is none with a reference, or memory ran out
abbrev pub FailsRefs : RunFiles → Fault → Type 0
FailsRefs run = IsReadFault (TellsRecords Messages (refs_fault (records_of run.named.messages.items)))

-- it holds of a run as it stands; or where messages have references, of the run without these and of them
abbrev pub AsksBy : Bool → RunFiles → Type 0 → (List (String Global) → RunFiles → Type 0) → Type 0
AsksBy false run holds with_refs = holds
AsksBy true run holds with_refs = (plain : RunFiles) × (refs : List (String Global)) × IsWithoutRefs run plain refs × with_refs refs plain
