-- Entries that are booked in the file of a ledger for a run.
use Rattle.std.proofs.Common.{◌≡◌, ◌⊎◌, ℕ, List, [], ◌∷◌, Option, None, Some, Result, Ok, Err, IfOk, OnOk, String, Global, sym, subst, inl, inr, refl}
use Rattle.std.specs.Io.KnownBytes.{Keeps}
use Rattle.std.specs.declared.io.ErrorKind.{ErrorKind}
use Rattle.std.specs.Prelude.{◌≢◌, string_bytes, take}
use Rattle.sms_devices.specs.Ledgers.{Replaces}
use Rattle.sms_ledger.specs.Books.{State}
use Rattle.sms_ledger.specs.Lines.{IsU64, IsWholeLength}
use Rattle.sms_ledger.specs.Posting.{ArePosted, IsStopped, appended_text}
use Rattle.sms_ledger.specs.declared.entry.Entry.{Entry}
use Rattle.sms_ledger.specs.declared.refusal.Refusal.{Refusal}
use Rattle.sms_ledger.specs.declared.refusal.Refusal.TheVariants.{NothingPaid, PaidBefore, TooMuch, NoAccount, NoCredit, TakenBefore, NotTaken, BackBefore, NotBack, Unequal, DecidedBefore, NoDoubt, OutOfMemory}
use Rattle.sms_devices.specs.declared.ledger.failure.LedgerFailure.{LedgerFailure}
use Rattle.sms_send.specs.Faults.{fault_of_booking, fault_of_opening}
use Rattle.sms_send.specs.LedgerJobs.{LacksNamed}
use Rattle.sms_send.specs.Ledgers.{FailsReading, FailsToTake, IsRead, Takes}
use Rattle.sms_send.specs.LedgerRuns.{FailsPosting, FailsToStand, Posts, RefusesAt, StandBehind}
use Rattle.sms_send.specs.declared.faults.fault.Fault.{Fault}
use Rattle.sms_send.specs.declared.faults.fault.Fault.TheVariants as faults

-- why the file of a ledger can't be had, under a name that is kept
pub lacks_named : (lacks : List ℕ → LedgerFailure → Type 0) (name : List ℕ) (why : LedgerFailure) (fault : Fault) → lacks name why
    → (fault ≡ faults.OutOfMemory) ⊎ ((text : String Global) × (string_bytes text ≡ name) × (fault ≡ fault_of_opening text why)) → LacksNamed lacks name fault
lacks_named lacks name why fault is (inl memory) = inl memory
lacks_named lacks name why fault is (inr (text, named, told)) = inr (text, named, (why, subst (λ (n : List ℕ). lacks n why) (sym named) is, told))

-- why entries aren't booked, by the cause for which the ledger refuses one
pub stopped : (es : List Entry) (s : State) (cause : Refusal) → IsStopped es s cause → RefusesAt es s (fault_of_booking cause)
stopped es s NothingPaid why = inr (NothingPaid, why, refl)
stopped es s PaidBefore why = inr (PaidBefore, why, refl)
stopped es s TooMuch why = inr (TooMuch, why, refl)
stopped es s NoAccount why = inr (NoAccount, why, refl)
stopped es s NoCredit why = inr (NoCredit, why, refl)
stopped es s TakenBefore why = inr (TakenBefore, why, refl)
stopped es s NotTaken why = inr (NotTaken, why, refl)
stopped es s BackBefore why = inr (BackBefore, why, refl)
stopped es s NotBack why = inr (NotBack, why, refl)
stopped es s Unequal why = inr (Unequal, why, refl)
stopped es s DecidedBefore why = inr (DecidedBefore, why, refl)
stopped es s NoDoubt why = inr (NoDoubt, why, refl)
stopped es s (OutOfMemory refused) why = inl refl

-- ---- lines that a file has taken

pub no_lines : (text lines : List ℕ) (old new : Option (List ℕ)) → lines ≡ [] → Takes text old new None → StandBehind text old new lines
no_lines text lines old new none keeps = subst (StandBehind text old new) (sym none) keeps

stands : (text lines : List ℕ) (old new : Option (List ℕ)) → lines ≢ [] → (whole : ℕ) → IsWholeLength text whole → Replaces old new whole (appended_text (take whole text) lines) → StandBehind text old new lines
stands text [] old new some whole long stand = absurd (some refl)
stands text (c ∷ cs) old new some whole long stand = (whole, long, stand)

pub some_lines : (text : List ℕ) (lines : String Global) (old new : Option (List ℕ)) → string_bytes lines ≢ [] → Takes text old new (Some lines) → StandBehind text old new (string_bytes lines)
some_lines text lines old new some (whole, long, stand) = stands text (string_bytes lines) old new some whole long stand

pub untaken_none : (errs : ErrorKind → Type 0) (text lines : List ℕ) (old new : Option (List ℕ)) (fault : Fault) → FailsToTake errs text old new None fault → FailsToStand errs text old new lines fault
untaken_none errs text lines old new fault (inl fails) = inl fails
untaken_none errs text lines old new fault (inr (written, is, whole, long, why, leaves, told)) = cc

pub untaken_some : (errs : ErrorKind → Type 0) (text : List ℕ) (lines : String Global) (old new : Option (List ℕ)) (fault : Fault) → FailsToTake errs text old new (Some lines) fault → FailsToStand errs text old new (string_bytes lines) fault
untaken_some errs text lines old new fault (inl fails) = inl fails
untaken_some errs text lines old new fault (inr (written, is, whole, long, why, leaves, told)) =
    let same : lines ≡ written = cc in
    inr (whole, long, why, rw same leaves, told)

-- ---- entries that are booked

module _ {F : Type 0} (octets stored : F → Option (List ℕ)) (entries : State → List Entry) where
  pub posted : (old new : F) (text lines : List ℕ) (s t : State) (time : ℕ) → IsU64 time → IsRead octets old text s → ArePosted time (entries s) s t lines → StandBehind text (octets old) (octets new) lines → stored new ≡ octets new
      → Posts octets stored entries old new s t lines
  posted old new text lines s t time low read are stand durable = record { text = text; read = read; time = time; low = low; posted = are; stand = stand; durable = durable }

  -- by a copy of their lines
  pub all_posted : (result : Result (String Global) Fault) (old new : F) (text lines : List ℕ) (s t : State) (time : ℕ) → IsU64 time → IsRead octets old text s → ArePosted time (entries s) s t lines
      → IfOk result (λ copy. string_bytes copy ≡ lines) → OnOk result (StandBehind text (octets old) (octets new) lines) → OnOk result (stored new ≡ octets new)
      → IfOk result (λ copy. (s : State) × (t : State) × Posts octets stored entries old new s t (string_bytes copy))
  all_posted (Ok copy) old new text lines s t time low read are same stand durable =
      (s, t, subst (λ (l : List ℕ). Posts octets stored entries old new s t l) (sym same) (posted old new text lines s t time low read are stand durable))
  all_posted (Err fault) old new text lines s t time low read are same stand durable = tt

keeps : (octets : Option (List ℕ)) → Keeps octets octets
keeps None = tt
keeps (Some octets) = refl

module _ {F : Type 0} (errs : ErrorKind → Type 0) (octets : F → Option (List ℕ)) (entries : State → List Entry) where
  pub unread : (file : F) (fault : Fault) → FailsReading errs octets file fault → FailsPosting errs octets entries file file fault
  unread file fault fails = inl (keeps (octets file), inl fails)

  pub refused : (file : F) (text : List ℕ) (s : State) (fault : Fault) → IsRead octets file text s → RefusesAt (entries s) s fault → FailsPosting errs octets entries file file fault
  refused file text s fault read (inl memory) = inl (keeps (octets file), inr (inr (inr memory)))
  refused file text s fault read (inr (cause, stops, told)) = inl (keeps (octets file), inr (inl (cause, record { text = text; books = s; read = read; stops = stops }, told)))

  pub unstood : (old new : F) (text lines : List ℕ) (s t : State) (time : ℕ) (fault : Fault) → IsRead octets old text s → ArePosted time (entries s) s t lines → FailsToStand errs text (octets old) (octets new) lines fault → FailsPosting errs octets entries old new fault
  unstood old new text lines s t time fault read are (inl (kept, inl memory)) = inl (kept, inr (inr (inr memory)))
  unstood old new text lines s t time fault read are (inl (kept, inr unkept)) = inl (kept, inr (inr (inl unkept)))
  unstood old new text lines s t time fault read are (inr (whole, long, why, leaves, told)) = inr (
    why,
    record {
      text = text;
      before = s;
      after = t;
      read = read;
      time = time;
      lines = lines;
      posted = are;
      whole = whole;
      long = long;
      leaves = leaves;
    },
    told,
  )
