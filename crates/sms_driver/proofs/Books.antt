-- The fault if no book is opened.
use Rattle.std.specs.Prelude.{◌≡◌, ◌≢◌, ◌↔◌, ℕ, List, Option, Result, Ok, Err, IfErr, IsErrOf}
use Rattle.std.proofs.Common.{sym, ap, ◌∙◌, subst, inl, inr}
use Rattle.sms_book.specs.Openings.{credits_of, names_of, AllSmall, GoodCount, IsFirstDouble, NoDouble}
use Rattle.sms_book.specs.declared.error.BookError.{BookError}
use Rattle.sms_book.specs.declared.error.BookError.TheVariants as book
use Rattle.sms_book.specs.declared.error.BookError.TheVariants.{BadCount, Duplicate, AmountTooLarge, NoCredit, NoAccount}
use Rattle.sms_book.specs.declared.opening.Opening.{Opening}
use Rattle.sms_driver.specs.declared.fault.SendFault.{SendFault}
use Rattle.sms_driver.specs.declared.fault.SendFault.TheVariants.{BookRefused}
use Rattle.sms_pdu.specs.declared.command.Mode.{Mode}
use Rattle.sms_bind.specs.declared.binding.BindFault.{BindFault}
use Rattle.sms_bind.specs.declared.binding.BindFault.TheVariants as bind
use Rattle.sms_driver.specs.SendFaults.{fault_of_book, IsFaultOfOne, IsFaultOfRun, RefusesBook, TellsBind}
use Rattle.sms_driver.specs.declared.start.StartPhase.{StartPhase}
use Rattle.sms_driver.specs.declared.start.StartPhase.TheVariants.{Idle}
use Rattle.sms_driver.specs.Starts.{TellsStart}

-- a book is refused before a word
pub tells_book : (b : StartPhase) (w : BookError) (f : SendFault) → b ≡ Idle → f ≡ fault_of_book w → TellsStart b f
tells_book b BadCount f yet e = subst (TellsStart b) (sym e) yet
tells_book b (Duplicate first second) f yet e = subst (TellsStart b) (sym e) yet
tells_book b AmountTooLarge f yet e = subst (TellsStart b) (sym e) yet
tells_book b (NoCredit free needed) f yet e = subst (TellsStart b) (sym e) yet
tells_book b NoAccount f yet e = subst (TellsStart b) (sym e) yet
tells_book b book.OutOfMemory f yet e = subst (TellsStart b) (sym e) (inl yet)

-- the fault is of the book, or of memory
pub book_is_one : (refuses : ℕ → Type 0) (told : ℕ → Option (List ℕ)) (mode : Mode) (binds : ℕ) (w : BookError) (f : SendFault) → f ≡ fault_of_book w → IsFaultOfOne refuses told mode binds f
book_is_one refuses told mode binds BadCount f e = inr (inr (BadCount, e))
book_is_one refuses told mode binds (Duplicate first second) f e = inr (inr (Duplicate first second, e))
book_is_one refuses told mode binds AmountTooLarge f e = inr (inr (AmountTooLarge, e))
book_is_one refuses told mode binds (NoCredit free needed) f e = inr (inr (NoCredit free needed, e))
book_is_one refuses told mode binds NoAccount f e = inr (inr (NoAccount, e))
book_is_one refuses told mode binds book.OutOfMemory f e = inl (inl e)

-- and so is what a run tells
pub told_one : {T : Type 0} (refuses : ℕ → Type 0) (told : ℕ → Option (List ℕ)) (mode : Mode) (binds : ℕ) (q : Result T SendFault) → IfErr q (IsFaultOfRun refuses told mode binds)
    → IfErr q (IsFaultOfOne refuses told mode binds)
told_one refuses told mode binds (Ok x) h = tt
told_one refuses told mode binds (Err f) (inl h) = inl h
told_one refuses told mode binds (Err f) (inr h) = inr (inl h)

is_told : (w why : BookError) → fault_of_book w ≡ BookRefused why → w ≡ why
is_told BadCount why e = cc
is_told (Duplicate first second) why e = cc
is_told AmountTooLarge why e = cc
is_told (NoCredit free needed) why e = cc
is_told NoAccount why e = cc
is_told book.OutOfMemory why e = absurd (cc)

module _ (o : List Opening) (n : ℕ) where
  -- by what a book says of its refusals
  module _ {B : Type 0} (r : Result B BookError) (count : IsErrOf r BadCount ↔ ¬ (GoodCount o n)) (double : (first second : ℕ) → IsErrOf r (Duplicate first second) ↔ (GoodCount o n × IsFirstDouble (names_of o) first second))
      (large : IsErrOf r AmountTooLarge ↔ (GoodCount o n × NoDouble (names_of o) × ¬ (AllSmall (credits_of o)))) (others : (r ≢ Err NoAccount) × ((free needed : ℕ) → r ≢ Err (NoCredit free needed))) (w : BookError) (is : r ≡ Err w) where
    refuses : (why : BookError) → w ≡ why → fault_of_book why ≡ BookRefused why → RefusesBook o n why
    refuses BadCount e f = count.0 (is ∙ ap Err e)
    refuses (Duplicate first second) e f = (double first second).0 (is ∙ ap Err e)
    refuses AmountTooLarge e f = large.0 (is ∙ ap Err e)
    refuses (NoCredit free needed) e f = absurd (others.1 free needed (is ∙ ap Err e))
    refuses NoAccount e f = absurd (others.0 (is ∙ ap Err e))
    refuses book.OutOfMemory e f = absurd (cc)

    same_cause : (v : BookError) → r ≡ Err v → w ≡ v
    same_cause v e = let both : Err w ≡ Err v = sym is ∙ e in cc

    is_refused : (why : BookError) → RefusesBook o n why → fault_of_book w ≡ BookRefused why
    is_refused BadCount h = ap fault_of_book (same_cause BadCount (count.1 h))
    is_refused (Duplicate first second) h = ap fault_of_book (same_cause (Duplicate first second) ((double first second).1 h))
    is_refused AmountTooLarge h = ap fault_of_book (same_cause AmountTooLarge (large.1 h))
    is_refused (NoCredit free needed) h = absurd h
    is_refused NoAccount h = absurd h
    is_refused book.OutOfMemory h = absurd h

    said_why : (f : SendFault) (why : BookError) → f ≡ fault_of_book w → f ≡ BookRefused why → RefusesBook o n why
    said_why f why e said =
        let same : w ≡ why = is_told w why (sym e ∙ said) in
        refuses why same (ap fault_of_book (sym same) ∙ sym e ∙ said)

    fault_in_err : {T : Type 0} (f g : SendFault) (q : Result T SendFault) → q ≡ Err f → q ≡ Err g → f ≡ g
    fault_in_err f g q one other = let both : Err f ≡ Err g = sym one ∙ other in cc

    pub book_told : {T : Type 0} (f : SendFault) (q : Result T SendFault) → q ≡ Err f → f ≡ fault_of_book w → (why : BookError) → IsErrOf q (BookRefused why) ↔ RefusesBook o n why
    book_told f q err e why = ((λ told. said_why f why e (fault_in_err f (BookRefused why) q err told)), (λ h. err ∙ ap Err (e ∙ is_refused why h)))

  -- a book that was opened isn't refused, and a run tells no such fault
  not_in : (place : ℕ) (bind : BindFault) (why : BookError) → ¬ (TellsBind place bind (BookRefused why))
  not_in place (bind.Refused status) why e = cc
  not_in place bind.Closed why e = cc
  not_in place bind.NotSmpp why e = cc
  not_in place bind.Read why (failure, e) = cc
  not_in place bind.Write why (failure, e) = cc
  not_in place bind.OutOfMemory why e = cc

  not_of_run : (refuses : ℕ → Type 0) (told : ℕ → Option (List ℕ)) (mode : Mode) (binds : ℕ) (why : BookError) → ¬ (IsFaultOfRun refuses told mode binds (BookRefused why))
  not_of_run refuses told mode binds why (inl (inl e)) = absurd (cc)
  not_of_run refuses told mode binds why (inl (inr e)) = absurd (cc)
  not_of_run refuses told mode binds why (inr (place, low, inl e)) = absurd (cc)
  not_of_run refuses told mode binds why (inr (place, low, inr (inl (e, none)))) = absurd (cc)
  not_of_run refuses told mode binds why (inr (place, low, inr (inr (fault, refused, e)))) = absurd (not_in place fault why e)

  not_refused : GoodCount o n × NoDouble (names_of o) × AllSmall (credits_of o) → (why : BookError) → ¬ (RefusesBook o n why)
  not_refused good BadCount h = h good.0
  not_refused good (Duplicate first second) h = good.1 first second h.1.0
  not_refused good AmountTooLarge h = h.2 good.2
  not_refused good (NoCredit free needed) h = h
  not_refused good NoAccount h = h
  not_refused good book.OutOfMemory h = h

  err_holds : {T : Type 0} (P : SendFault → Type 0) (q : Result T SendFault) (f : SendFault) → q ≡ Err f → IfErr q P → P f
  err_holds P q f e h = subst (λ x. IfErr x P) e h

  pub run_told : {T : Type 0} (refuses : ℕ → Type 0) (told : ℕ → Option (List ℕ)) (mode : Mode) (binds : ℕ) (q : Result T SendFault) → IfErr q (IsFaultOfRun refuses told mode binds) → GoodCount o n × NoDouble (names_of o) × AllSmall (credits_of o) → (why : BookError) → IsErrOf q (BookRefused why) ↔ RefusesBook o n why
  run_told refuses told mode binds q refused good why = ((λ is. absurd (not_of_run refuses told mode binds why (err_holds (IsFaultOfRun refuses told mode binds) q (BookRefused why) is refused))), (λ h. absurd (not_refused good why h)))
