-- What a run takes of its accounts, one after another.
use Rattle.std.proofs.Common.{◌≡◌, ℕ, suc, zero, ◌<◌, ◌≤◌, Bool, true, false, List, [], ◌∷◌, ◌++◌, refl, sym, ap, ◌∙◌, arith, append_assoc, drop, get_or, length, None}
use Rattle.std.specs.Prelude.{◌&&◌, ◌||◌, ◌==◌}
use Rattle.sms_book.specs.declared.opening.Opening.{Opening}
use Rattle.sms_ledger.specs.Books.{State, stand_of}
use Rattle.sms_ledger.specs.declared.entry.Entry.{Entry}
use Rattle.sms_journal.specs.OfLedger.{HaveNames, are_out, is_out_with, ledger_name, taking_for, takings_for}
use Rattle.sms_journal.proofs.DigestTexts.{none_some}

module _ {A : Type 0} where
  pub none_left : (xs : List A) (k : ℕ) → length xs ≤ k → drop k xs ≡ []
  none_left [] zero low = refl
  none_left [] (suc k) low = refl
  none_left (x ∷ xs) zero low = absurd (omega (arith, low))
  none_left (x ∷ xs) (suc k) low = none_left xs k (omega (arith, low))

module _ (run : List ℕ) (names : List (List ℕ)) (openings : List Opening) where
  takings_next : (k : ℕ) (name : List ℕ) (o : Opening) → drop k names ≡ name ∷ drop (suc k) names → drop k openings ≡ o ∷ drop (suc k) openings
      → takings_for run (drop k names) (drop k openings) ≡ taking_for run name o.credits ++ takings_for run (drop (suc k) names) (drop (suc k) openings)
  takings_next k name o a r = ap (λ (l : List (List ℕ)). takings_for run l (drop k openings)) a ∙ ap (takings_for run (name ∷ drop (suc k) names)) r

  pub takings_more : (k n : ℕ) (name : List ℕ) (o : Opening) (all old new : List Entry) → n ≡ suc k → drop k names ≡ name ∷ drop (suc k) names → drop k openings ≡ o ∷ drop (suc k) openings
      → old ++ takings_for run (drop k names) (drop k openings) ≡ all → new ≡ old ++ taking_for run name o.credits → new ++ takings_for run (drop n names) (drop n openings) ≡ all
  takings_more k n name o all old new n_is a r so is =
      ap (λ (m : ℕ). new ++ takings_for run (drop m names) (drop m openings)) n_is ∙ ap (λ (l : List Entry). l ++ takings_for run (drop (suc k) names) (drop (suc k) openings)) is
      ∙ append_assoc old (taking_for run name o.credits) (takings_for run (drop (suc k) names) (drop (suc k) openings)) ∙ ap (λ (l : List Entry). old ++ l) (sym (takings_next k name o a r)) ∙ so

-- without an account that opens there are no more
pub takings_done : (run : List ℕ) (names : List (List ℕ)) (openings : List Opening) (k : ℕ) → length openings ≤ k → takings_for run names (drop k openings) ≡ []
takings_done run names openings k low = ap (takings_for run names) (none_left openings k low) ∙ none names
  where
    none : (l : List (List ℕ)) → takings_for run l [] ≡ []
    none [] = refl
    none (x ∷ l) = refl

-- the same of what is out
pub out_next : (run : List ℕ) (s : State) (names : List (List ℕ)) (openings : List Opening) (k : ℕ) (name : List ℕ) (o : Opening) → drop k names ≡ name ∷ drop (suc k) names → drop k openings ≡ o ∷ drop (suc k) openings
    → are_out run s (drop k names) (drop k openings) ≡ ((o.credits == 0 || is_out_with o.credits (stand_of run name s)) && are_out run s (drop (suc k) names) (drop (suc k) openings))
out_next run s names openings k name o a r = ap (λ (l : List (List ℕ)). are_out run s l (drop k openings)) a ∙ ap (are_out run s (name ∷ drop (suc k) names)) r

pub out_more : (run : List ℕ) (s : State) (names : List (List ℕ)) (openings : List Opening) (k n : ℕ) (name : List ℕ) (o : Opening) (all : Bool) → n ≡ suc k → drop k names ≡ name ∷ drop (suc k) names → drop k openings ≡ o ∷ drop (suc k) openings
    → all ≡ are_out run s (drop k names) (drop k openings) → (o.credits == 0 || is_out_with o.credits (stand_of run name s)) ≡ true → all ≡ are_out run s (drop n names) (drop n openings)
out_more run s names openings k n name o all n_is a r so out =
    so ∙ out_next run s names openings k name o a r ∙ ap (λ (b : Bool). b && are_out run s (drop (suc k) names) (drop (suc k) openings)) out ∙ ap (λ (m : ℕ). are_out run s (drop m names) (drop m openings)) (sym n_is)

-- one that isn't is enough
pub out_less : (run : List ℕ) (s : State) (names : List (List ℕ)) (openings : List Opening) (k : ℕ) (name : List ℕ) (o : Opening) (all : Bool) → drop k names ≡ name ∷ drop (suc k) names → drop k openings ≡ o ∷ drop (suc k) openings
    → all ≡ are_out run s (drop k names) (drop k openings) → (o.credits == 0 || is_out_with o.credits (stand_of run name s)) ≡ false → false ≡ all
out_less run s names openings k name o all a r so out =
    sym (so ∙ out_next run s names openings k name o a r ∙ ap (λ (b : Bool). b && are_out run s (drop (suc k) names) (drop (suc k) openings)) out)

pub out_done : (run : List ℕ) (s : State) (names : List (List ℕ)) (openings : List Opening) (k : ℕ) → length openings ≤ k → are_out run s names (drop k openings) ≡ true
out_done run s names openings k low = ap (are_out run s names) (none_left openings k low) ∙ none names
  where
    none : (l : List (List ℕ)) → are_out run s l [] ≡ true
    none [] = refl
    none (x ∷ l) = refl

-- where one account has no name in a ledger, no names are those of all
pub lacks_name : (openings : List Opening) (k : ℕ) (o : Opening) → k < length openings → o ≡ get_or openings k o → ledger_name o ≡ None → (names : List (List ℕ)) → HaveNames openings names → ⊥
lacks_name [] k o low is none names have = omega (arith, low)
lacks_name (x ∷ xs) zero o low is none [] have = have
lacks_name (x ∷ xs) zero o low is none (n ∷ ns) have = none_some n (sym none ∙ ap ledger_name is ∙ have.0)
lacks_name (x ∷ xs) (suc k) o low is none [] have = have
lacks_name (x ∷ xs) (suc k) o low is none (n ∷ ns) have = lacks_name xs k o (omega (arith, low)) is none ns have.1
