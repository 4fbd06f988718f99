-- What was printed of a report, by the text that was printed.
use Rattle.std.proofs.Common.{◌≡◌, inr, subst, ℕ, List, Option}
use Rattle.std.specs.Io.KnownBytes.{Appends}
use Rattle.sms_files.specs.declared.input.Input.{Input}
use Rattle.sms_journal.specs.Files.{IsCut, Reads}
use Rattle.sms_journal.specs.Resting.{IsReportOf, Prints, IsFaultOfPrinting}
use Rattle.sms_journal.specs.declared.recovery.fault.RecoveryFault.{RecoveryFault}

module _ (config accounts messages : List ℕ) (tariff : Option (List ℕ)) (report : List ℕ) (text : Input → List ℕ) (old new : Option (List ℕ)) (input : Input) (printed : List ℕ)
    (read : Reads config accounts messages tariff input) (reported : IsReportOf input report) (is : printed ≡ text input) where
  pub prints : Appends old new printed → Prints config accounts messages tariff report text old new
  prints h = record { input = input; read = read; reported = reported; written = subst (λ (t : List ℕ). Appends old new t) is h }

  pub cut : (fault : RecoveryFault) → IsCut printed old new fault → IsFaultOfPrinting config accounts messages tariff report text old new fault
  cut fault h = inr (input, read, reported, subst (λ (t : List ℕ). IsCut t old new fault) is h)
