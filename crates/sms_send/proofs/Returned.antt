-- What is booked in the ledger of a name, once its file is closed.
use Rattle.std.proofs.Common.{◌≡◌, ◌⊎◌, inl, inr, subst, ℕ, List, Option, String, Global, Result, IfErr}
use Rattle.std.proofs.lemmas.Result.{IfErr-weaker}
use Rattle.std.specs.Prelude.{string_bytes}
use Rattle.std.specs.declared.io.ErrorKind.{ErrorKind}
use Rattle.sms_core.specs.declared.row.Row.{Row as RunRow}
use Rattle.sms_devices.specs.declared.ledger.failure.LedgerFailure.{LedgerFailure}
use Rattle.sms_files.specs.Inputs.{Told}
use Rattle.sms_ledger.specs.Posting.{returns_of}
use Rattle.sms_send.specs.LedgerJobs.{FailsGivingBackIn, FailsReadingJournal, IsOfCutFile}
use Rattle.sms_send.specs.LedgerRuns.{FailsPosting}
use Rattle.sms_send.specs.Ledgers.{WasOpen}
use Rattle.sms_send.specs.Opened.{FailsReadingFile, OfFile}
use Rattle.sms_send.specs.Runs.{IsRun}
use Rattle.sms_send.specs.declared.faults.fault.Fault.{Fault}
use Rattle.sms_send.specs.declared.faults.fault.Fault.TheVariants.{OutOfMemory}
use Rattle.sms_send.specs.declared.files.run_files.RunFiles.{RunFiles}
use Rattle.sms_send.proofs.Sendings.{beside}

-- a journal of a name can't be read
pub unread_journal : (finds : List ℕ → Option Told → Type 0) (text : String Global) (name : List ℕ) (fault : Fault) → string_bytes text ≡ name → (fault ≡ OutOfMemory) ⊎ FailsReadingFile finds text fault → FailsReadingJournal finds name fault
unread_journal finds text name fault same (inl memory) = inl memory
unread_journal finds text name fault same (inr fails) = inr (text, same, fails)

-- a run whose journal has one took nothing
pub untaken_by : {A : Type 0} (finds : List ℕ → Option Told → Type 0) (name other : List ℕ) (fault : Fault) → name ≡ other → FailsReadingJournal finds name fault ⊎ IsOfCutFile finds name fault → FailsReadingJournal finds other fault ⊎ IsOfCutFile finds other fault ⊎ A
untaken_by finds name other fault same (inl fails) = inl (subst (λ (n : List ℕ). FailsReadingJournal finds n fault) same fails)
untaken_by finds name other fault same (inr cut) = inr (inl (subst (λ (n : List ℕ). IsOfCutFile finds n fault) same cut))

-- files by the names of a config and a journal
pub run_named : (finds : List ℕ → Option Told → Type 0) (config config' journal journal' : List ℕ) (files : RunFiles) → config ≡ config' → journal ≡ journal' → IsRun finds config journal files → IsRun finds config' journal' files
run_named finds config config' journal journal' files said also is = subst (λ (n : List ℕ). IsRun finds n journal' files) said (subst (λ (w : List ℕ). IsRun finds config w files) also is)

-- what holds of octets that were read holds of those of the file of their name
pub of_named : (finds : List ℕ → Option Told → Type 0) (name name' items octets : List ℕ) (P : List ℕ → Type 0) → name ≡ name' → OfFile finds name (λ bytes. items ≡ bytes) → octets ≡ items → P octets → OfFile finds name' P
of_named finds name name' items octets P said are same holds = subst (λ (n : List ℕ). OfFile finds n P) said (beside finds name items octets P are same holds)

module _ {F : Type 0} (holds : List ℕ → F → Type 0) (lacks : List ℕ → LedgerFailure → Type 0) (errs : ErrorKind → Type 0) (octets : F → Option (List ℕ)) (opening : F → ℕ) (is_closed : F → Type 0) (ledger : List ℕ) (first last : F) (was : WasOpen holds opening is_closed ledger first last) (r : Result (String Global) Fault) where
  -- rows of a run, by names that stand in slices
  module _ (run : List ℕ) (names names' : List (List ℕ)) (rows rows' : List RunRow) (named : names ≡ names') (rowed : rows ≡ rows') where
    pub fails_back : IfErr r (FailsPosting errs octets (λ s. returns_of run s names rows) first last) → IfErr r (FailsGivingBackIn holds lacks errs octets opening is_closed ledger run names' rows')
    fails_back fails = rw named at (rw rowed at (IfErr-weaker r _ _ (λ fault tells. of fault tells) fails))
      where
        of : (fault : Fault) → FailsPosting errs octets (λ s. returns_of run s names rows) first last fault → FailsGivingBackIn holds lacks errs octets opening is_closed ledger run names rows fault
        of fault tells = inr (record { first = first; last = last; opened = was; done = tells })
