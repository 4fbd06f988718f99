-- What `recover` and `rest` print of a run, and why they fail.
use Rattle.std.specs.Prelude.{◌≡◌, ◌⊎◌, ℕ, Bool, true, false, List, Option, Some, None, String, codes, string_bytes}
use Rattle.std.specs.declared.alloc.Global.{Global}
use Rattle.std.specs.Io.KnownBytes.{Appends}
use Rattle.sms_files.specs.Inputs.{Told}
use Rattle.sms_files.specs.declared.config.FileNames.{FileNames}
use Rattle.sms_files.specs.declared.input.Input.{Input}
use Rattle.sms_journal.specs.declared.text.digests.RunFile.{RunFile}
use Rattle.sms_journal.specs.declared.text.digests.RunFile.TheVariants.{Accounts, Attempts, Config, LongReference, Messages, Tariff}
use Rattle.sms_journal.specs.declared.text.header.JournalKind.{JournalKind}
use Rattle.sms_journal.specs.declared.text.header.JournalKind.TheVariants.{Run, Trial}
use Rattle.sms_journal.specs.Recovering.{RecoversJournal, IsFaultOfJournal}
use Rattle.sms_journal.specs.Resting.{Prints, IsFaultOfPrinting, accounts_by, rest_by}
use Rattle.sms_journal.specs.declared.recovery.fault.RecoveryFault.{RecoveryFault}
use Rattle.sms_journal.specs.declared.recovery.recovering.Recovered.{Recovered}
use Rattle.sms_send.specs.Faults.{IsFaultOfRecovery, output_failed}
use Rattle.sms_send.specs.Noted.{IsHeld}
use Rattle.sms_send.specs.Refs.{AsksBy, FailsRefs}
use Rattle.sms_send.specs.Runs.{IsRun, FailsRunFiles, tariff_in}
use Rattle.sms_send.specs.declared.faults.fault.Fault.{Fault}
use Rattle.sms_send.specs.declared.faults.fault.Fault.TheVariants.{BadNote, OtherFile}
use Rattle.sms_send.specs.declared.args.send_args.RecoverArgs.{RecoverArgs}
use Rattle.sms_send.specs.declared.args.send_args.RestArgs.{RestArgs}
use Rattle.sms_send.specs.declared.files.run_files.RunFiles.{RunFiles}

-- what the journal of the run says, or of a trial where one is asked for, was written
abbrev pub RecoversRun : RunFiles → Bool → Option (List ℕ) → Option (List ℕ) → Recovered → Type 0
RecoversRun run trial old new recovered =
    RecoversJournal run.config.items run.named.accounts.items run.named.messages.items (tariff_in run.named) run.written.items trial old new recovered

-- of a trial a line says that no message centre saw any of it
abbrev pub trial_line : List ℕ
trial_line = codes "trial: no message centre saw any of it\n"

abbrev pub WritesKind : JournalKind → Option (List ℕ) → Option (List ℕ) → Type 0
WritesKind Run error_old error_new = error_new ≡ error_old
WritesKind Trial error_old error_new = Appends error_old error_new trial_line

-- what by its report was not sent at all: the accounts for it, or its messages
abbrev pub left_of : Bool → Option (List (String Global)) → RunFiles → Input → List ℕ
left_of true refs run = accounts_by run.written.items
left_of false refs run = rest_by refs run.written.items run.named.messages.items

-- that was written
abbrev pub PrintsLeft : Bool → Option (List (String Global)) → RunFiles → Option (List ℕ) → Option (List ℕ) → Type 0
PrintsLeft accounts refs run old new =
    Prints run.config.items run.named.accounts.items run.named.messages.items (tariff_in run.named) run.written.items (left_of accounts refs run) old new

-- the same as it was asked for: of a run as it stands, or of one whose messages have references
abbrev pub PrintsAsked : (accounts refs : Bool) → RunFiles → Option (List ℕ) → Option (List ℕ) → Type 0
PrintsAsked accounts refs run old new = AsksBy refs run (PrintsLeft accounts None run old new) (λ behind plain. PrintsLeft accounts (Some behind) plain old new)

-- the name of a file of a run, by that of its config and by those that it names; a key of the config is no file
abbrev pub name_of : List ℕ → FileNames → RunFile → Option (List ℕ)
name_of config names Config = Some config
name_of config names Attempts = None
name_of config names LongReference = None
name_of config names Accounts = Some (string_bytes names.accounts)
name_of config names Messages = Some (string_bytes names.messages)
name_of config names Tariff = Some (string_bytes names.tariff)

-- the journal is of other files, with the name of one of them where there was memory for it
abbrev pub IsOfOtherFile : Fault → Type 0
IsOfOtherFile fault = (fault ≡ BadNote 1) ⊎ ((name : String Global) × (fault ≡ OtherFile name))

-- the fault is of recovering, and this holds of it
abbrev pub FailsWith : (RecoveryFault → Type 0) → Fault → Type 0
FailsWith P fault = (f : RecoveryFault) × P f × IsFaultOfRecovery f fault

abbrev pub FailsRecovering : RunFiles → Bool → Option (List ℕ) → Option (List ℕ) → Fault → Type 0
FailsRecovering run trial old new =
    FailsWith (IsFaultOfJournal run.config.items run.named.accounts.items run.named.messages.items (tariff_in run.named) run.written.items trial old new)

abbrev pub FailsRest : Bool → Option (List (String Global)) → RunFiles → Option (List ℕ) → Option (List ℕ) → Fault → Type 0
FailsRest accounts refs run old new =
    FailsWith (IsFaultOfPrinting run.config.items run.named.accounts.items run.named.messages.items (tariff_in run.named) run.written.items (left_of accounts refs run) old new)

abbrev pub FailsRestAsked : (accounts refs : Bool) → RunFiles → Option (List ℕ) → Option (List ℕ) → Fault → Type 0
FailsRestAsked accounts refs run old new fault =
    AsksBy refs run (FailsRest accounts None run old new fault) (λ behind plain. FailsRest accounts (Some behind) plain old new fault) ⊎ ((refs ≡ true) × FailsRefs run fault)

-- ---- the jobs

-- the run that an order names was recovered with this status
abbrev pub RecoversBy : (List ℕ → Option Told → Type 0) → RecoverArgs → Option (List ℕ) → Option (List ℕ) → ℕ → Type 0
RecoversBy finds order old new status =
    (run : RunFiles) × IsRun finds (string_bytes order.config) (string_bytes order.journal) run × (recovered : Recovered) × RecoversRun run order.trial old new recovered × (status ≡ recovered.status)

-- and standard error has what it is of
pub record RecoversAndWarns (finds : List ℕ → Option Told → Type 0) (order : RecoverArgs) (old new error_old error_new : Option (List ℕ)) : Type 0 where
  pub run : RunFiles
  pub is : IsRun finds (string_bytes order.config) (string_bytes order.journal) run
  pub recovered : Recovered
  pub recovers : RecoversRun run order.trial old new recovered
  pub told : WritesKind recovered.kind error_old error_new

-- a trial was recovered so, and that couldn't be written
abbrev pub LosesTrial : RunFiles → Bool → Option (List ℕ) → Option (List ℕ) → Fault → Type 0
LosesTrial run trial old new fault = (fault ≡ output_failed) × (recovered : Recovered) × RecoversRun run trial old new recovered × (recovered.kind ≡ Trial)

-- why the jobs fail: the fault is of the files, or of what they say; and before that, the journal is held, as the system says
abbrev pub FailsRecoverFree : (List ℕ → Option Told → Type 0) → RecoverArgs → Option (List ℕ) → Option (List ℕ) → Fault → Type 0
FailsRecoverFree finds order old new fault =
    FailsRunFiles finds order.config order.journal fault
    ⊎ ((run : RunFiles) × IsRun finds (string_bytes order.config) (string_bytes order.journal) run × (FailsRecovering run order.trial old new fault ⊎ LosesTrial run order.trial old new fault))

abbrev pub FailsRecoverJob : (List ℕ → Type 0) → (List ℕ → Option Told → Type 0) → RecoverArgs → Option (List ℕ) → Option (List ℕ) → Fault → Type 0
FailsRecoverJob holds finds order old new fault = IsHeld holds (string_bytes order.journal) fault ⊎ FailsRecoverFree finds order old new fault

abbrev pub FailsRestJob : (List ℕ → Option Told → Type 0) → RestArgs → Option (List ℕ) → Option (List ℕ) → Fault → Type 0
FailsRestJob finds order old new fault =
    FailsRunFiles finds order.config order.report fault
    ⊎ ((run : RunFiles) × IsRun finds (string_bytes order.config) (string_bytes order.report) run × FailsRestAsked order.accounts order.refs run old new fault)
