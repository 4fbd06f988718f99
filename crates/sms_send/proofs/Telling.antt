-- What holds of a fault where it is reported, of what it is reported for.
use Rattle.std.proofs.Common.{◌≡◌, refl, ap, ℕ, inl, inr, List, Option, Some, None, IfSome, Result, Ok, Err, IfErr}
use Rattle.std.specs.Result.{IsErrAnd}
use Rattle.sms_files.specs.Fields.{Record, records_of}
use Rattle.sms_files.specs.Records.{TellsRecords, Trouble}
use Rattle.sms_files.specs.declared.fault.InputFault.{InputFault}
use Rattle.sms_files.specs.declared.fault.InputFault.TheVariants as input
use Rattle.sms_files.specs.declared.fault.Source.{Source}
use Rattle.sms_files.specs.declared.report.fault.OutputFault.{OutputFault}
use Rattle.sms_files.specs.Output.{output_failed as writing_failed}
use Rattle.sms_send.specs.Faults.{IsReadFault, fault_of_input, fault_of_output, output_failed}
use Rattle.sms_send.specs.Opened.{FailsFileJob}
use Rattle.sms_send.specs.declared.faults.fault.Fault.{Fault}
use Rattle.sms_send.specs.declared.faults.fault.Fault.TheVariants.{OutOfMemory}

-- what holds of a fault holds of it when it is reported
pub told_so : {T E : Type 0} (r : Result T E) (e : E) (P : E → Type 0) → IsErrAnd r (λ f. f ≡ e) → P e → IfErr r P
told_so (Ok x) e P h p = tt
told_so (Err f) e P h p = rw h p

-- so of memory that was refused
pub refused : {T : Type 0} (r : Result T Fault) (P : Fault → Type 0) → IsErrAnd r (λ f. f ≡ OutOfMemory) → P OutOfMemory → IfErr r P
refused r P h p = told_so r OutOfMemory P h p

-- what holds of a value that is reported, whichever it is
pub if_known : {A : Type 0} (o : Option A) (P : A → Type 0) → ((x : A) → o ≡ Some x → P x) → IfSome o P
if_known None P h = tt
if_known (Some x) P h = h x refl

pub at_known : {A : Type 0} (o : Option A) (P : A → Type 0) (x : A) → IfSome o P → o ≡ Some x → P x
at_known o P x h e = rw e at h

-- what a fault of a job says of its source: one in reading it, lack of memory, and one in writing

pub told-reading : (source : Source) (o : Option (List ℕ)) (faulty : List Record → Option Trouble) (f : InputFault)
    → IfSome o (λ bytes. TellsRecords source (faulty (records_of bytes)) f) → IfSome o (λ bytes. FailsFileJob source (faulty (records_of bytes)) (fault_of_input f))
told-reading source None faulty f h = tt
told-reading source (Some bytes) faulty f h = inl (f, h, refl)

-- one that was reported already
pub told-read : (source : Source) (o : Option (List ℕ)) (faulty : List Record → Option Trouble) (f : Fault)
    → IfSome o (λ bytes. IsReadFault (TellsRecords source (faulty (records_of bytes))) f) → IfSome o (λ bytes. FailsFileJob source (faulty (records_of bytes)) f)
told-read source None faulty f h = tt
told-read source (Some bytes) faulty f h = inl h

-- one of a read whose text is not made yet
pub told-first : (source : Source) (o : Option (List ℕ)) (faulty : List Record → Option Trouble) (f : InputFault)
    → IfSome o (λ bytes. TellsRecords source (faulty (records_of bytes)) f) → IfSome o (λ bytes. IsReadFault (TellsRecords source (faulty (records_of bytes))) (fault_of_input f))
told-first source None faulty f h = tt
told-first source (Some bytes) faulty f h = (f, h, refl)

pub no-memory : (source : Source) (o : Option (List ℕ)) (faulty : List Record → Option Trouble) → IfSome o (λ bytes. IsReadFault (TellsRecords source (faulty (records_of bytes))) OutOfMemory)
no-memory source None faulty = tt
no-memory source (Some bytes) faulty = (input.OutOfMemory tt, inl (inr refl), refl)

pub told-memory : (source : Source) (o : Option (List ℕ)) (faulty : List Record → Option Trouble) → IfSome o (λ bytes. FailsFileJob source (faulty (records_of bytes)) OutOfMemory)
told-memory source None faulty = tt
told-memory source (Some bytes) faulty = inl (input.OutOfMemory tt, inl (inr refl), refl)

pub told-writing : (source : Source) (o : Option (List ℕ)) (faulty : List Record → Option Trouble) (f : OutputFault)
    → IfSome o (λ bytes. faulty (records_of bytes) ≡ None) → f ≡ writing_failed → IfSome o (λ bytes. FailsFileJob source (faulty (records_of bytes)) (fault_of_output f))
told-writing source None faulty f h e = tt
told-writing source (Some bytes) faulty f h e = inr (ap fault_of_output e, h)

-- what holds where the output failed, whatever the fault
pub where-output : {T : Type 0} (r : Result T Fault) (P : Type 0) → P → IfErr r (λ fault. fault ≡ output_failed → P)
where-output (Ok x) P p = tt
where-output (Err f) P p = λ _. p
