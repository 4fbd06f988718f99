-- Threads that are started step by step, where each step passes on the fault of the one before it.
use Rattle.std.specs.Prelude.{◌≡◌, ◌<◌, ◌≤◌, ℕ, List, [], length, Result, Ok, Err, IfErr, IsOk, OnOk}
use Rattle.std.proofs.Common.{◌∙◌, sym, ap, subst, inl, inr, true≢false, arith}
use Rattle.sms_driver.specs.declared.fault.SendFault.{SendFault}
use Rattle.sms_driver.specs.declared.fault.SendFault.TheVariants.{OutOfMemory, ThreadRefused}
use Rattle.sms_driver.specs.SendFaults.{IsOfStart, StopsAt}

module _ {U E : Type 0} where
  pub on_ok : (r : Result U E) (P Q : Type 0) → (P → Q) → OnOk r P → OnOk r Q
  on_ok (Ok u) P Q f h = f h
  on_ok (Err e) P Q f h = tt

  pub from_ok : (r : Result U E) (P : Type 0) → IsOk r → OnOk r P → P
  from_ok (Ok u) P is h = h
  from_ok (Err e) P is h = absurd (true≢false (sym is))

  -- those that were started fit, since none was where the step before failed
  pub fits_first : {A : Type 0} (r : Result U E) (xs : List A) (all room : ℕ) (X : E → Type 0) → IfErr r (λ e. X e × (xs ≡ [])) → OnOk r (all ≤ room) → length xs ≤ all → length xs ≤ room
  fits_first (Ok u) xs all room X none fit bound = omega (arith, fit, bound)
  fits_first (Err e) xs all room X none fit bound = let l : length xs ≡ 0 = ap length none.1 in omega (arith, l)

module _ {U V E F : Type 0} where
  -- what holds where the first step succeeded holds where the second one did
  pub on_both : (r : Result U E) (s : Result V F) (P Q : Type 0) → OnOk s (IsOk r × Q) → OnOk r P → OnOk s P
  on_both r (Err f) P Q all h = tt
  on_both (Ok u) (Ok v) P Q all h = h
  on_both (Err e) (Ok v) P Q all h = absurd (true≢false (sym all.0))

  pub fits_second : {A : Type 0} (r : Result U E) (s : Result V F) (xs : List A) (all room : ℕ) (X : F → Type 0) (Q : Type 0) → IfErr s (λ f. X f × (xs ≡ [])) → OnOk s (IsOk r × Q) → OnOk r (all ≤ room) → length xs ≤ all → length xs ≤ room
  fits_second r s xs all room X Q none goes fit bound = fits_first s xs all room X none (on_both r s (all ≤ room) Q goes fit) bound

-- where the start stopped, and why
pub stops_at : {U E A B : Type 0} (reserved : Result U E) (listening start : Result U SendFault) (rs : List A) (ws : List B) (all_readers all_workers : ℕ)
    → IfErr reserved (λ e. (listening ≡ Err OutOfMemory) × (rs ≡ [])) → OnOk reserved (IfErr listening (λ f. (f ≡ ThreadRefused) × (length rs < all_readers))) → OnOk listening (length rs ≡ all_readers)
    → IfErr listening (λ f. (start ≡ Err f) × (ws ≡ [])) → OnOk listening (IfErr start (λ f. (f ≡ ThreadRefused) × (length ws < all_workers)))
    → IfErr start (λ f. IsOfStart f × StopsAt f all_workers all_readers (length ws) (length rs))
stops_at reserved listening (Ok u) rs ws all_readers all_workers a b long c d = tt
stops_at reserved (Ok u) (Err f) rs ws all_readers all_workers a b long c d = (inr d.0, subst (λ (g : SendFault). StopsAt g all_workers all_readers (length ws) (length rs)) (sym d.0) (inr (long, d.1)))
stops_at (Ok u) (Err g) (Err f) rs ws all_readers all_workers a b long c d =
    let e : Err f ≡ Err g = c.0 in
    let same : f ≡ g = cc in
    let is : f ≡ ThreadRefused = same ∙ b.0 in
    (inr is, subst (λ (g : SendFault). StopsAt g all_workers all_readers (length ws) (length rs)) (sym is) (inl (ap length c.1, b.1)))
stops_at (Err x) (Err g) (Err f) rs ws all_readers all_workers a b long c d =
    let e : Err f ≡ Err OutOfMemory = c.0 ∙ a.0 in
    let is : f ≡ OutOfMemory = cc in
    (inl is, subst (λ (g : SendFault). StopsAt g all_workers all_readers (length ws) (length rs)) (sym is) (ap length c.1, ap length a.1))
