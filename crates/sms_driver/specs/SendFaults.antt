-- Which faults a sending ends with.
use Rattle.std.specs.Prelude.{◌≡◌, ◌⊎◌, ℕ, ◌<◌, List, Option}
use Rattle.std.specs.Io.KnownBytes.{Consumes, IsAtEnd}
use Rattle.sms_pdu.specs.declared.command.Mode.{Mode}
use Rattle.sms_pdu.specs.declared.device_error.DeviceError.{DeviceError}
use Rattle.sms_book.specs.Openings.{credits_of, names_of, AllSmall, GoodCount, IsFirstDouble, NoDouble}
use Rattle.sms_book.specs.declared.error.BookError.{BookError}
use Rattle.sms_book.specs.declared.error.BookError.TheVariants as book
use Rattle.sms_book.specs.declared.error.BookError.TheVariants.{BadCount, Duplicate, AmountTooLarge}
use Rattle.sms_book.specs.declared.opening.Opening.{Opening}
use Rattle.sms_bind.specs.Answers.{Refuses}
use Rattle.sms_bind.specs.declared.binding.BindFault.{BindFault}
use Rattle.sms_bind.specs.declared.binding.BindFault.TheVariants as bind
use Rattle.sms_driver.specs.declared.fault.BindFailure.TheVariants as failure
use Rattle.sms_driver.specs.declared.fault.SendFault.{SendFault}
use Rattle.sms_driver.specs.declared.fault.SendFault.TheVariants.{BindFailed, BindRefused, BookRefused, ThreadRefused, OutOfMemory}

-- the fault for a bind's fault; a `DeviceError` exists only if a device answered an error
abbrev pub TellsBind : ℕ → BindFault → SendFault → Type 0
TellsBind place (bind.Refused status) fault = fault ≡ BindRefused place status
TellsBind place bind.Closed fault = fault ≡ BindFailed place failure.Closed
TellsBind place bind.NotSmpp fault = fault ≡ BindFailed place failure.NotSmpp
TellsBind place bind.Read fault = (f : DeviceError) × (fault ≡ BindFailed place (failure.Read f))
TellsBind place bind.Write fault = (f : DeviceError) × (fault ≡ BindFailed place (failure.Write f))
TellsBind place bind.OutOfMemory fault = fault ≡ OutOfMemory

-- the octets that were read refuse the bind for this reason; the connection counts as closed only if all was read
pub record HasFailed (mode : Mode) (before after : Option (List ℕ)) (why : BindFault) : Type 0 where
  pub octets : List ℕ
  pub read : Consumes before after octets
  pub says : Refuses mode octets why
  pub ended : why ≡ bind.Closed → IsAtEnd after

-- the same of some octets that were read of a reader that gives these
abbrev pub WasRefused : Mode → Option (List ℕ) → BindFault → Type 0
WasRefused mode told why = (left : Option (List ℕ)) × HasFailed mode told left why

-- the fault is of this bind: there is no connection for it, or what was read of it refuses it for this reason; or memory ran out
abbrev pub IsFaultOf : (ℕ → Type 0) → (ℕ → Option (List ℕ)) → Mode → ℕ → SendFault → Type 0
IsFaultOf refuses told mode place fault =
    (fault ≡ OutOfMemory)
    ⊎ ((fault ≡ BindFailed place failure.NoConnection) × refuses place)
    ⊎ ((why : BindFault) × WasRefused mode (told place) why × TellsBind place why fault)

-- not all threads could be started: memory or a thread was refused
abbrev pub IsOfStart : SendFault → Type 0
IsOfStart fault = (fault ≡ OutOfMemory) ⊎ (fault ≡ ThreadRefused)

-- where the start of the workers and readers stopped: memory was refused before the first of them, or a thread after this many; the readers are
-- started first
abbrev pub StopsAt : SendFault → ℕ → ℕ → ℕ → ℕ → Type 0
StopsAt OutOfMemory all_workers all_readers workers readers = (workers ≡ 0) × (readers ≡ 0)
StopsAt ThreadRefused all_workers all_readers workers readers = ((workers ≡ 0) × (readers < all_readers)) ⊎ ((readers ≡ all_readers) × (workers < all_workers))
StopsAt _ all_workers all_readers workers readers = ⊥

-- it is of one of this many binds, or of the start
abbrev pub IsFaultOfRun : (ℕ → Type 0) → (ℕ → Option (List ℕ)) → Mode → ℕ → SendFault → Type 0
IsFaultOfRun refuses told mode binds fault = IsOfStart fault ⊎ ((place : ℕ) × (place < binds) × IsFaultOf refuses told mode place fault)

-- or of the book
abbrev pub IsFaultOfOne : (ℕ → Type 0) → (ℕ → Option (List ℕ)) → Mode → ℕ → SendFault → Type 0
IsFaultOfOne refuses told mode binds fault =
    IsOfStart fault ⊎ (((place : ℕ) × (place < binds) × IsFaultOf refuses told mode place fault) ⊎ ((why : BookError) × (fault ≡ BookRefused why)))

-- no book can be opened with these accounts for this many workers, for this cause
abbrev pub RefusesBook : List Opening → ℕ → BookError → Type 0
RefusesBook openings workers BadCount = ¬ (GoodCount openings workers)
RefusesBook openings workers (Duplicate first second) = GoodCount openings workers × IsFirstDouble (names_of openings) first second
RefusesBook openings workers AmountTooLarge = GoodCount openings workers × NoDouble (names_of openings) × ¬ (AllSmall (credits_of openings))
RefusesBook openings workers _ = ⊥

-- the fault for a book's refusal
abbrev pub fault_of_book : BookError → SendFault
fault_of_book book.OutOfMemory = OutOfMemory
fault_of_book why = BookRefused why
