-- What a recovery says, and that its journal is of other files.
use Rattle.std.proofs.Common.{◌≡◌, ◌∙◌, ℕ, List, Some, ap, inl, inr, refl, sym, Result, Ok, Err, IfOk, OnOk}
use Rattle.sms_files.specs.declared.config.FileNames.{FileNames}
use Rattle.sms_journal.specs.declared.text.digests.RunFile.{RunFile}
use Rattle.sms_journal.specs.declared.text.digests.RunFile.TheVariants.{Accounts, Attempts, Config, LongReference, Messages, Tariff}
use Rattle.sms_journal.specs.declared.recovery.fault.RecoveryFault.{RecoveryFault}
use Rattle.sms_journal.specs.declared.recovery.fault.RecoveryFault.TheVariants.{OtherFiles}
use Rattle.sms_send.specs.Faults.{IsFaultOfRecovery, IsFile, fault_of_others, fault_of_recovery}
use Rattle.sms_send.specs.Recovered.{IsOfOtherFile, name_of}
use Rattle.sms_send.specs.declared.faults.fault.Fault.{Fault}
use Rattle.sms_send.specs.declared.faults.fault.Fault.TheVariants.{BadNote}

pub on_ok : {T E Q : Type 0} {P : T → Type 0} (r : Result T E) → ((x : T) → P x → Q) → IfOk r P → OnOk r Q
on_ok (Ok x) f holds = f x holds
on_ok (Err e) f holds = tt

-- what has a name is a file, so that it has no fault of its own where it has none
its_file : (config : List ℕ) (names : FileNames) (file : RunFile) (name : List ℕ) → name_of config names file ≡ Some name → IsFile file
its_file config names Config name is = tt
its_file config names Attempts name is = absurd (cc)
its_file config names LongReference name is = absurd (cc)
its_file config names Accounts name is = tt
its_file config names Messages name is = tt
its_file config names Tariff name is = tt

unnamed : (file : RunFile) → IsFile file → fault_of_others file ≡ BadNote 1
unnamed Config is = refl
unnamed Attempts is = absurd is
unnamed LongReference is = absurd is
unnamed Accounts is = refl
unnamed Messages is = refl
unnamed Tariff is = refl

pub other_told : (config : List ℕ) (names : FileNames) (file : RunFile) (text : List ℕ) (f : RecoveryFault) (fault : Fault) → name_of config names file ≡ Some text → f ≡ OtherFiles file → IsOfOtherFile fault
    → IsFaultOfRecovery f fault
other_told config names file text f fault named same (inl is) =
    inl (is ∙ sym (unnamed file (its_file config names file text named)) ∙ ap fault_of_recovery (sym same))
other_told config names file text f fault named same (inr (name, is)) = inr (file, same, its_file config names file text named, name, is)
