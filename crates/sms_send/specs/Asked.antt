-- The arguments that the program was started with, what it does by them, and what it writes of a fault. Which words may stand after the
-- program's name is a relation of the world that it runs in: none where one of them is not UTF-8. So is whether details are wanted
-- on standard error.
use Rattle.std.specs.Prelude.{◌≡◌, ◌⊎◌, ℕ, Bool, false, List, Option, Some, None, string_bytes}
use Rattle.std.specs.declared.io.Error.{Error as IoError}
use Rattle.clap.specs.Words.{Text}
use Rattle.sms_devices.specs.Centres.{CentreAt}
use Rattle.sms_files.specs.Inputs.{Told}
use Rattle.sms_send.specs.CommandLine.{IsJob, RefusesWords, subcommand_in}
use Rattle.sms_send.specs.Words.{asks_for_more}
use Rattle.sms_send.specs.Faults.{IsWords, output_failed}
use Rattle.sms_send.specs.Jobs.{Does, FailsJob, IsStatusOf}
use Rattle.sms_send.specs.declared.faults.fault.Fault.{Fault}
use Rattle.sms_send.specs.declared.faults.fault.Fault.TheVariants.{Help, Version, OutOfMemory}
use Rattle.sms_send.specs.declared.args.job.Job.{Job}
use Rattle.sms_send.specs.declared.args.send_args.JournalFile.{JournalFile}
use Rattle.sms_send.specs.declared.program.Untold.{Untold}
use Rattle.sms_send.specs.declared.program.Untold.TheVariants.{Error, Output}

-- the arguments can't be had: memory was refused, or one of them is not UTF-8
abbrev pub LacksWords : (Option (List Text) → Type 0) → Fault → Type 0
LacksWords has fault = (fault ≡ OutOfMemory) ⊎ (IsWords fault × has None)

-- the arguments ask for this job, and whether for details
pub record AsksForJob (has : Option (List Text) → Type 0) (verbose : Bool) (job : Job) : Type 0 where
  pub words : List Text
  pub given : has (Some words)
  pub is : IsJob (subcommand_in words) job
  pub details : verbose ≡ asks_for_more words

-- it holds of a job that arguments ask for which the world may have
abbrev pub OfAsked : (Option (List Text) → Type 0) → (Job → Type 0) → Type 0
OfAsked has P = (words : List Text) × has (Some words) × (job : Job) × IsJob (subcommand_in words) job × P job

-- it was done with this status, and standard error has this of it
abbrev pub WorksAsAsked : {S : Type 0} → (Option (List Text) → Type 0) → (S → Told) → (List ℕ → Option Told → Type 0) → (CentreAt → Bool → ℕ → ℕ → Told) → (Job → Option (List ℕ) → Option (List ℕ) → ℕ → Type 0) → (Job → Type 0) → Option (List ℕ) → Option (List ℕ) → ℕ → Type 0
WorksAsAsked has standard finds tells books beside old new status = OfAsked has (λ job. IsStatusOf job status × Does standard finds tells books job old new status × beside job)

-- there is no job: the arguments can't be had, or they are refused
abbrev pub LacksJob : (Option (List Text) → Type 0) → Fault → Type 0
LacksJob has fault = LacksWords has fault ⊎ ((words : List Text) × has (Some words) × RefusesWords words fault)

-- there is none, or it failed
abbrev pub FailsAsAsked : {S : Type 0} → (Option (List Text) → Type 0) → (JournalFile → Fault → Type 0) → (List ℕ → Type 0) → (List ℕ → Type 0) → (Job → Option (List ℕ) → Option (List ℕ) → Fault → Type 0) → (S → Told) → (List ℕ → Option Told → Type 0) → (CentreAt → Bool → ℕ → ℕ → Told) → Option (List ℕ) → Option (List ℕ) → Fault → Type 0
FailsAsAsked has begins refuses holds unbooked standard finds tells old new fault = LacksJob has fault ⊎ OfAsked has (λ job. FailsJob begins refuses holds unbooked standard finds tells job old new fault)

-- whether an argument asks for the detail lines of this fault; none does where the fault is that the arguments can't be had
abbrev pub AsksForDetails : (Option (List Text) → Type 0) → Bool → Fault → Type 0
AsksForDetails has verbose fault = (LacksWords has fault × (verbose ≡ false)) ⊎ ((words : List Text) × has (Some words) × (verbose ≡ asks_for_more words))

-- what is printed in place of a fault: help and the version
abbrev pub printed_of : Fault → Option (List ℕ)
printed_of (Help text) = Some (string_bytes text)
printed_of (Version text) = Some (string_bytes text)
printed_of _ = None

-- why it can't be written: the output of what is printed failed, or standard error did, with an error with which it may have
abbrev pub IsUntold : (IoError → Type 0) → Option (List ℕ) → Untold → Type 0
IsUntold fails None (Output fault) = ⊥
IsUntold fails None (Error error) = fails error
IsUntold fails (Some text) (Output fault) = fault ≡ output_failed
IsUntold fails (Some text) (Error error) = ⊥
