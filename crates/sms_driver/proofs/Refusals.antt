-- What is given unless something failed before.
use Rattle.std.specs.Prelude.{◌≡◌, ◌⊎◌, ◌<◌, ℕ, Bool, true, false, List, Option, Result, Ok, Err, IfOk, IfErr, IsOk, OnOk}
use Rattle.std.proofs.Common.{◌∙◌, sym, subst, inl, inr, true≢false, arith}
use Rattle.std.proofs.lemmas.Result.{IfErr-at_err}
use Rattle.sms_driver.specs.declared.fault.SendFault.{SendFault}
use Rattle.sms_pdu.specs.Faults.{IsCounted}
use Rattle.sms_pdu.specs.declared.command.Mode.{Mode}
use Rattle.sms_bind.specs.declared.binding.BindFault.{BindFault}
use Rattle.sms_driver.specs.SendFaults.{HasFailed, IsFaultOf, StopsAt, TellsBind}

-- what holds of the value that was there holds of the one that is given
pub if_given : {A E : Type 0} (r : Result A E) (a : A) (P : A → Type 0) → IfOk r (λ b. b ≡ a) → P a → IfOk r P
if_given (Ok b) a P is h = subst P (sym is) h
if_given (Err e) a P is h = tt

module _ {A U E : Type 0} where
  -- and what holds of it where nothing failed
  pub if_all : (made : Result U E) (r : Result A E) (a : A) (P : A → Type 0) → IfOk r (λ b. b ≡ a) → OnOk r (IsOk made) → OnOk made (P a) → IfOk r P
  if_all (Ok u) (Ok b) a P is all h = subst P (sym is) h
  if_all (Err e) (Ok b) a P is all h = absurd (true≢false (sym all))
  if_all (Ok u) (Err e) a P is all h = tt
  if_all (Err d) (Err e) a P is all h = tt

  -- what holds of the fault holds of the one that is returned
  pub if_told : (made : Result U E) (r : Result A E) (P Q : E → Type 0) → IfErr r (λ e. made ≡ Err e) → IfErr made P → ((e : E) → P e → Q e) → IfErr r Q
  if_told made (Ok b) P Q is h f = tt
  if_told made (Err e) P Q is h f = f e (IfErr-at_err P is h)

-- a bind that failed once it was dialled, in the terms of what the dial told
pub of_dial : (refuses : ℕ → Type 0) (told : ℕ → Option (List ℕ)) (mode : Mode) (place : ℕ) (before after : Option (List ℕ)) (why : BindFault) (f : SendFault) → before ≡ told place
    → HasFailed mode before after why → TellsBind place why f → IsFaultOf refuses told mode place f
of_dial refuses told mode place before after why f is failed tells =
    inr (inr (why, (after, subst (λ (o : Option (List ℕ)). HasFailed mode o after why) is failed), tells))

-- a device that had answered no error has answered one by now
pub some_counted : (old new : ℕ) → old ≡ 0 → IsCounted old new → 0 < new
some_counted old new none (inl more) = omega arith
some_counted old new none (inr full) = absurd (omega arith)

-- so a wire that was whole and failed
pub some_written : (broken : Bool) (old new : ℕ) → broken ≡ false → old ≡ 0 → (broken ≡ true) ⊎ IsCounted old new → 0 < new
some_written broken old new whole none (inl was) = absurd (true≢false (sym was ∙ whole))
some_written broken old new whole none (inr counted) = some_counted old new none counted

-- a start stopped behind as many as gave something back
pub stops_so : (f : SendFault) (workers readers w r back_w back_r : ℕ) → back_w ≡ w → back_r ≡ r → StopsAt f workers readers w r → StopsAt f workers readers back_w back_r
stops_so f workers readers w r back_w back_r same_w same_r h = subst (λ (n : ℕ). StopsAt f workers readers n back_r) (sym same_w) (subst (λ (n : ℕ). StopsAt f workers readers w n) (sym same_r) h)

-- what is so where nothing failed is so where something is given
pub on_ok : {A U E : Type 0} (X : Type 0) (made : Result U E) (r : Result A E) → OnOk r (IsOk made) → OnOk made X → OnOk r X
on_ok X (Ok u) (Ok b) all x = x
on_ok X (Err e) (Ok b) all x = absurd (true≢false (sym all))
on_ok X (Ok u) (Err e) all x = tt
on_ok X (Err d) (Err e) all x = tt
