-- What is printed of a report of a run, and what a fault says.
use Rattle.std.specs.Prelude.{◌≡◌, ◌⊎◌, ℕ, List, Option, String}
use Rattle.std.specs.declared.alloc.Global.{Global}
use Rattle.std.specs.Io.KnownBytes.{Appends}
use Rattle.sms_files.specs.Fields.{records_of}
use Rattle.sms_files.specs.declared.input.Input.{Input as TheInput}
use Rattle.sms_journal.specs.Files.{IsCut, Reads, IsFaultOfFiles}
use Rattle.sms_journal.specs.Plans.{ArePlans}
use Rattle.sms_journal.specs.Rest.{rest_accounts_of, rest_of}
use Rattle.sms_journal.specs.Stages.{IsFirstFaulty, IsReport}
use Rattle.sms_journal.specs.declared.recovery.fault.RecoveryFault.{RecoveryFault}
use Rattle.sms_journal.specs.Faults.{out_of_memory}
use Rattle.sms_journal.specs.declared.rest.plan.Plan.{Plan}
use Rattle.sms_journal.specs.declared.recovery.fault.RecoveryFault.TheVariants.{Report}

-- the octets are a report of this input's messages and accounts
abbrev pub IsReportOf : TheInput → List ℕ → Type 0
IsReportOf input report = (plans : List Plan) × ArePlans input plans × IsReport input.config.retry.policy.attempts plans input.openings.items (records_of report)

-- they aren't: this record is the first that is faulty or missing
abbrev pub IsFaultOfReport : TheInput → List ℕ → RecoveryFault → Type 0
IsFaultOfReport input report fault =
    (fault ≡ out_of_memory)
    ⊎ ((plans : List Plan) × (k : ℕ) × ArePlans input plans × (fault ≡ Report k) × IsFirstFaulty input.config.retry.policy.attempts plans input.openings.items (records_of report) k)

-- the files were read
abbrev pub IsFaultOfReported : List ℕ → List ℕ → List ℕ → Option (List ℕ) → List ℕ → RecoveryFault → Type 0
IsFaultOfReported config accounts messages tariff report fault =
    IsFaultOfFiles config accounts messages tariff fault ⊎ ((input : TheInput) × Reads config accounts messages tariff input × IsFaultOfReport input report fault)

-- the input was read, and a report of it, and such a text was written of them and nothing else
pub record Prints (config accounts messages : List ℕ) (tariff : Option (List ℕ)) (report : List ℕ) (text : TheInput → List ℕ) (old new : Option (List ℕ)) : Type 0 where
  pub input : TheInput
  pub read : Reads config accounts messages tariff input
  pub reported : IsReportOf input report
  pub written : Appends old new (text input)

-- what a fault says: it is of the files, of the report, or of the output
abbrev pub IsFaultOfPrinting : List ℕ → List ℕ → List ℕ → Option (List ℕ) → List ℕ → (TheInput → List ℕ) → Option (List ℕ) → Option (List ℕ) → RecoveryFault → Type 0
IsFaultOfPrinting config accounts messages tariff report text old new fault =
    IsFaultOfReported config accounts messages tariff report fault
    ⊎ ((input : TheInput) × Reads config accounts messages tariff input × IsReportOf input report × IsCut (text input) old new fault)

-- what is left of the messages, and of the accounts

abbrev pub rest_by : Option (List (String Global)) → List ℕ → List ℕ → TheInput → List ℕ
rest_by refs report messages input = rest_of refs (records_of report) (records_of messages)

abbrev pub accounts_by : List ℕ → TheInput → List ℕ
accounts_by report input = rest_accounts_of input.openings.items (records_of report)
