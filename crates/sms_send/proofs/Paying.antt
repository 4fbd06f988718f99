-- Payments that are booked in the file of a ledger.
use Rattle.std.proofs.Common.{◌≡◌, ◌⊎◌, ◌≤◌, ◌∙◌, ◌++◌, ℕ, List, Option, None, Some, String, Global, sym, ap, subst, inl, inr, refl, arith, length, length-append, take}
use Rattle.std.specs.Io.KnownBytes.{Keeps}
use Rattle.std.specs.declared.io.ErrorKind.{ErrorKind}
use Rattle.std.specs.Prelude.{MatchOption, string_bytes}
use Rattle.sms_ledger.specs.Balance.{account_text, balance_text}
use Rattle.sms_ledger.specs.Books.{State}
use Rattle.sms_ledger.specs.Lines.{IsFileOf, IsU64, IsWholeLength}
use Rattle.sms_ledger.specs.Posting.{IsKnown, IsToppedUp, Refuses, appended_text}
use Rattle.sms_ledger.specs.PostingLaws.{FilesTakeEntries}
use Rattle.sms_ledger.specs.declared.entry.Entry.TheVariants.{Paid}
use Rattle.sms_ledger.specs.declared.entry.Payment.{Payment}
use Rattle.sms_ledger.specs.declared.refusal.Refusal.{Refusal}
use Rattle.sms_ledger.specs.declared.refusal.Refusal.TheVariants.{NothingPaid, PaidBefore, TooMuch, NoAccount, NoCredit, TakenBefore, NotTaken, BackBefore, NotBack, Unequal, DecidedBefore, NoDoubt, OutOfMemory}
use Rattle.sms_files.specs.Output.{WritesFront}
use Rattle.sms_devices.specs.declared.ledger.failure.LedgerFailure.{LedgerFailure}
use Rattle.sms_send.specs.Faults.{fault_of_payment, output_failed}
use Rattle.sms_send.specs.Ledgers.{Books, FailsBalance, FailsBooking, FailsReading, FailsToTake, HasLine, IsRead, LacksLine, PaymentsStand, Takes}
use Rattle.sms_send.specs.declared.faults.fault.Fault.{Fault}
use Rattle.sms_send.specs.declared.faults.fault.Fault.TheVariants as faults

-- whole lines are no longer than the text
whole_fits : (text : List ℕ) (n : ℕ) → IsWholeLength text n → n ≤ length text
whole_fits text n long = omega (arith, long.long, ap length long.is, length-append long.front long.cut)

pub payments_stand : FilesTakeEntries → PaymentsStand
payments_stand law p text after s t good file added =
    let stands : after ≡ take added.whole text ++ appended_text (take added.whole text) added.line = added.stands (whole_fits text added.whole added.long) in
    let next = law text added.whole added.time s t (Paid p) file added.long added.low good added.booked.1 in
    let line = added.booked.2 in
    subst (λ (l : List ℕ). IsFileOf l t) (ap (λ (l : List ℕ). take added.whole text ++ appended_text (take added.whole text) l) (sym line) ∙ sym stands) next

-- why a payment isn't booked, by the cause for which the ledger refuses it
pub unposted : (p : Payment) (old new : State) (cause : Refusal) → Refuses p old new cause → LacksLine p old (fault_of_payment cause)
unposted p old new NothingPaid why = inr (NothingPaid, why.0, why.1.0, refl)
unposted p old new PaidBefore why = inr (PaidBefore, why.0, why.1.0, refl)
unposted p old new TooMuch why = inr (TooMuch, why.0, why.1.0, refl)
unposted p old new NoAccount why = inr (NoAccount, why.0, why.1.0, refl)
unposted p old new NoCredit why = inr (NoCredit, why.0, why.1.0, refl)
unposted p old new TakenBefore why = inr (TakenBefore, why.0, why.1.0, refl)
unposted p old new NotTaken why = inr (NotTaken, why.0, why.1.0, refl)
unposted p old new BackBefore why = inr (BackBefore, why.0, why.1.0, refl)
unposted p old new NotBack why = inr (NotBack, why.0, why.1.0, refl)
unposted p old new Unequal why = inr (Unequal, why.0, why.1.0, refl)
unposted p old new DecidedBefore why = inr (DecidedBefore, why.0, why.1.0, refl)
unposted p old new NoDoubt why = inr (NoDoubt, why.0, why.1.0, refl)
unposted p old new (OutOfMemory refused) why = inl refl

-- a payment's line, or none
pub has_line : (time : ℕ) (p : Payment) (s t : State) (line : Option (String Global)) → MatchOption line (IsKnown p s t) (λ text. IsToppedUp time p s t (string_bytes text)) → HasLine time p s t line
has_line time p s t None is = is
has_line time p s t (Some line) is = is

keeps : (octets : Option (List ℕ)) → Keeps octets octets
keeps None = tt
keeps (Some octets) = refl

module _ {F : Type 0} (octets : F → Option (List ℕ)) (p : Payment) where
  -- what is booked once the file has taken the line
  pub booked : (stored : F → Option (List ℕ)) (old new : F) (text : List ℕ) (s t : State) (time : ℕ) (line : Option (String Global)) (printed : List ℕ) → IsU64 time → IsRead octets old text s → HasLine time p s t line
      → Takes text (octets old) (octets new) line → stored new ≡ octets new → printed ≡ account_text t p.account → Books octets stored p old new printed
  booked stored old new text s t time None printed low read has takes durable prints =
      record { text = text; before = s; after = t; read = read; booked = inl (has, takes); durable = durable; prints = prints }
  booked stored old new text s t time (Some line) printed low read has takes durable prints = record {
    text = text;
    before = s;
    after = t;
    read = read;
    booked = inr (record { time = time; low = low; line = string_bytes line; booked = has; whole = takes.0; long = takes.1; stands = takes.2 });
    durable = durable;
    prints = prints;
  }

  -- why nothing is, where the file can't be read, the ledger refuses it, or the file didn't take the line
  pub unread : (errs : ErrorKind → Type 0) (file : F) (fault : Fault) → FailsReading errs octets file fault → FailsBooking errs octets p file file fault
  unread errs file fault fails = inl (keeps (octets file), inl fails)

  pub refused : (errs : ErrorKind → Type 0) (file : F) (text : List ℕ) (s : State) (fault : Fault) → IsRead octets file text s → LacksLine p s fault → FailsBooking errs octets p file file fault
  refused errs file text s fault read (inl memory) = inl (keeps (octets file), inr (inr (inr memory)))
  refused errs file text s fault read (inr (cause, unknown, why, is)) =
      inl (keeps (octets file), inr (inl (cause, record { text = text; books = s; read = read; unknown = unknown; refused = why }, is)))

  pub untaken : (errs : ErrorKind → Type 0) (old new : F) (text : List ℕ) (s t : State) (time : ℕ) (line : Option (String Global)) (fault : Fault) → IsRead octets old text s → HasLine time p s t line
      → FailsToTake errs text (octets old) (octets new) line fault → FailsBooking errs octets p old new fault
  untaken errs old new text s t time line fault read has (inl (kept, inl memory)) = inl (kept, inr (inr (inr memory)))
  untaken errs old new text s t time line fault read has (inl (kept, inr unkept)) = inl (kept, inr (inr (inl unkept)))
  untaken errs old new text s t time line fault read has (inr (written, is, whole, long, why, leaves, told)) = inr (
    why,
    record {
      text = text;
      before = s;
      after = t;
      read = read;
      time = time;
      line = string_bytes written;
      booked = subst (HasLine time p s t) is has;
      whole = whole;
      long = long;
      leaves = leaves;
    },
    told,
  )

-- why a table isn't printed
pub table_lost : {F : Type 0} (holds : List ℕ → F → Type 0) (lacks : List ℕ → LedgerFailure → Type 0) (errs : ErrorKind → Type 0) (octets : F → Option (List ℕ)) (name : String Global) (file : F) (text : List ℕ) (s : State) (old new : Option (List ℕ)) (fault : Fault)
    → holds (string_bytes name) file → IsRead octets file text s → (fault ≡ faults.OutOfMemory) ⊎ ((fault ≡ output_failed) × WritesFront old new (balance_text s)) → FailsBalance holds lacks errs octets name old new fault
table_lost holds lacks errs octets name file text s old new fault held read (inl memory) = inr (inr (inl memory))
table_lost holds lacks errs octets name file text s old new fault held read (inr (lost, front)) = inr (inr (inr (record { file = file; held = held; text = text; books = s; read = read; out = front }, lost)))

-- a file of which nothing is changed
pub no_memory : (errs : ErrorKind → Type 0) (text : List ℕ) (octets : Option (List ℕ)) (line : Option (String Global)) → FailsToTake errs text octets octets line faults.OutOfMemory
no_memory errs text octets line = inl (keeps octets, inl refl)
