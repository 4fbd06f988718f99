-- What is booked in a ledger's file for a run: what it takes out before its first request, and any other entries.
use Rattle.std.specs.Prelude.{◌≡◌, ◌⊎◌, ℕ, List, Option, [], ◌∷◌, take}
use Rattle.std.specs.Io.KnownBytes.{Keeps}
use Rattle.std.specs.declared.io.ErrorKind.{ErrorKind}
use Rattle.sms_book.specs.declared.opening.Opening.{Opening}
use Rattle.sms_devices.specs.Ledgers.{Leaves, Replaces}
use Rattle.sms_devices.specs.declared.ledger.failure.LedgerFailure.{LedgerFailure}
use Rattle.sms_files.specs.Fields.{Record}
use Rattle.sms_journal.specs.OfLedger.{HaveNames, accounts_in, takings_for}
use Rattle.sms_ledger.specs.Books.{State}
use Rattle.sms_ledger.specs.Lines.{IsU64, IsWholeLength}
use Rattle.sms_ledger.specs.Posting.{ArePosted, StopsAt, appended_text}
use Rattle.sms_ledger.specs.declared.entry.Entry.{Entry}
use Rattle.sms_ledger.specs.declared.refusal.Refusal.{Refusal}
use Rattle.sms_send.specs.Faults.{fault_of_booking}
use Rattle.sms_send.specs.Ledgers.{FailsReading, FailsToKeep, IsRead}
use Rattle.sms_send.specs.declared.faults.fault.Fault.{Fault}
use Rattle.sms_send.specs.declared.faults.fault.Fault.TheVariants.{Ledger, OutOfMemory}

-- ---- entries that are booked in a file that is held

-- these lines stand behind the whole lines that were read, and before the first line the header; without lines the octets are those that were there
abbrev pub StandBehind : List ℕ → Option (List ℕ) → Option (List ℕ) → List ℕ → Type 0
StandBehind text old new [] = Keeps old new
StandBehind text old new (c ∷ cs) = (whole : ℕ) × IsWholeLength text whole × Replaces old new whole (appended_text (take whole text) (c ∷ cs))

-- what was read of the file is the ledger with books s; the entries that are for these books may follow one another there, and the books after them are t; their
-- lines, which have one time, stand in the file, and the disk has them
pub record Posts {F : Type 0} (octets stored : F → Option (List ℕ)) (entries : State → List Entry) (old new : F) (s t : State) (lines : List ℕ) : Type 0 where
  pub text : List ℕ
  pub read : IsRead octets old text s
  pub time : ℕ
  pub low : IsU64 time
  pub posted : ArePosted time (entries s) s t lines
  pub stand : StandBehind text (octets old) (octets new) lines
  pub durable : stored new ≡ octets new

-- one of the entries may not follow, for this cause
pub record RefusesEntries {F : Type 0} (octets : F → Option (List ℕ)) (entries : State → List Entry) (file : F) (cause : Refusal) : Type 0 where
  pub text : List ℕ
  pub books : State
  pub read : IsRead octets file text books
  pub stops : StopsAt (entries books) books cause

-- they may, but their lines couldn't be appended
pub record FailsLines {F : Type 0} (errs : ErrorKind → Type 0) (octets : F → Option (List ℕ)) (entries : State → List Entry) (old new : F) (why : LedgerFailure) : Type 0 where
  pub text : List ℕ
  pub before : State
  pub after : State
  pub read : IsRead octets old text before
  pub time : ℕ
  pub lines : List ℕ
  pub posted : ArePosted time (entries before) before after lines
  pub whole : ℕ
  pub long : IsWholeLength text whole
  pub leaves : Leaves errs (octets old) (octets new) whole (appended_text (take whole text) lines) why

-- the lines of entries in memory weren't taken: nothing was done, or an append failed
abbrev pub FailsToStand : (ErrorKind → Type 0) → List ℕ → Option (List ℕ) → Option (List ℕ) → List ℕ → Fault → Type 0
FailsToStand errs text old new lines fault =
    (Keeps old new × ((fault ≡ OutOfMemory) ⊎ FailsToKeep errs fault))
    ⊎ ((whole : ℕ) × IsWholeLength text whole × (why : LedgerFailure) × Leaves errs old new whole (appended_text (take whole text) lines) why × (fault ≡ Ledger why))

-- a ledger in memory refuses entries
abbrev pub RefusesAt : List Entry → State → Fault → Type 0
RefusesAt entries s fault = (fault ≡ OutOfMemory) ⊎ ((cause : Refusal) × StopsAt entries s cause × (fault ≡ fault_of_booking cause))

-- nothing is booked, and the file has the octets that it had: it can't be read, the ledger refuses an entry, memory was refused, or the device answered an error.
-- Where that was while the lines were appended, the file is left as an append that failed leaves it
abbrev pub FailsPosting : {F : Type 0} → (ErrorKind → Type 0) → (F → Option (List ℕ)) → (State → List Entry) → F → F → Fault → Type 0
FailsPosting errs octets entries old new fault =
    (Keeps (octets old) (octets new) × (FailsReading errs octets old fault
    ⊎ ((cause : Refusal) × RefusesEntries octets entries old cause × (fault ≡ fault_of_booking cause))
    ⊎ FailsToKeep errs fault
    ⊎ (fault ≡ OutOfMemory)))
    ⊎ ((why : LedgerFailure) × FailsLines errs octets entries old new why × (fault ≡ Ledger why))

-- ---- of a run

-- before anything is sent the run takes what its accounts open with: they are those of the ledger that its messages name, with all that is free of them
pub record TakesOut {F : Type 0} (octets stored : F → Option (List ℕ)) (run accounts : List ℕ) (messages : List Record) (openings : List Opening) (old new : F) : Type 0 where
  pub before : State
  pub after : State
  pub lines : List ℕ
  pub are : accounts ≡ accounts_in before messages
  pub names : List (List ℕ)
  pub named : HaveNames openings names
  pub posts : Posts octets stored (λ s. takings_for run names openings) old new before after lines
