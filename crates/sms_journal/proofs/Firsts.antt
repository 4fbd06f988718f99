-- The first of a list that a test finds.
use Rattle.std.proofs.Common.{◌≡◌, ℕ, zero, suc, ◌+◌, ◌<◌, List, [], ◌∷◌, ◌++◌, length, take, Some, None, refl, sym, ap, ◌∙◌, get_or, add-one, arith}
use Rattle.std.specs.Prelude.{Option, true, false}
use Rattle.std.specs.Option.{is_some}
use Rattle.sms_journal.specs.Recovered.{or_else, first_in}

module _ {X : Type 0} where
  pub or_none : (o : Option X) → or_else o None ≡ o
  or_none None = refl
  or_none (Some x) = refl

  none_of : (o : Option X) → is_some o ≡ false → o ≡ None
  none_of None e = refl
  none_of (Some x) e = absurd (cc)

module _ {N X : Type 0} where
  more : (f : N → Option X) (xs : List N) (i : ℕ) (x : N) → i < length xs → x ≡ get_or xs i x → first_in f (take (suc i) xs) ≡ or_else (first_in f (take i xs)) (f x)
  more f [] i x low is = absurd (omega arith)
  more f (y ∷ ys) zero x low is = or_none (f y) ∙ ap f (sym is)
  more f (y ∷ ys) (suc i) x low is = let h = more f ys i x (omega arith) is in elim (f y) as (λ o. or_else o (first_in f (take (suc i) ys)) ≡ or_else (or_else o (first_in f (take i ys))) (f x)) [ None ↦ h | Some z ↦ refl ]

  pub first_snoc : (f : N → Option X) (xs : List N) (x : N) → first_in f (xs ++ x ∷ []) ≡ or_else (first_in f xs) (f x)
  first_snoc f [] x = or_none (f x)
  first_snoc f (y ∷ ys) x = elim (f y) as (λ o. or_else o (first_in f (ys ++ x ∷ [])) ≡ or_else (or_else o (first_in f ys)) (f x)) [ None ↦ first_snoc f ys x | Some z ↦ refl ]

  pub first_more : (f : N → Option X) (xs : List N) (i : ℕ) (x : N) → i < length xs → x ≡ get_or xs i x → first_in f (take (i + 1) xs) ≡ or_else (first_in f (take i xs)) (f x)
  first_more f xs i x low is = rw add-one (more f xs i x low is)

  -- the first of a front is the first of the whole
  pub first_of_front : (f : N → Option X) (xs : List N) (i : ℕ) (y : X) → first_in f (take i xs) ≡ Some y → first_in f xs ≡ Some y
  first_of_front f [] zero y e = e
  first_of_front f [] (suc i) y e = e
  first_of_front f (x ∷ xs) zero y e = absurd (cc)
  first_of_front f (x ∷ xs) (suc i) y e =
      let step : (o : Option X) → or_else o (first_in f (take i xs)) ≡ Some y → or_else o (first_in f xs) ≡ Some y = λ o. elim o as (λ o. or_else o (first_in f (take i xs)) ≡ Some y → or_else o (first_in f xs) ≡ Some y) [ None ↦ λ h. first_of_front f xs i y h | Some z ↦ λ h. h ] in
      step (f x) e

  pub first_hit : (f : N → Option X) (xs : List N) (i : ℕ) (x : N) (y : X) → i < length xs → x ≡ get_or xs i x → first_in f (take i xs) ≡ None → f x ≡ Some y → first_in f xs ≡ Some y
  first_hit f xs i x y low is before hit = first_of_front f xs (suc i) y (more f xs i x low is ∙ ap (λ o. or_else o (f x)) before ∙ hit)

  hit_at : (f : N → Option X) (xs : List N) (i : ℕ) (x : N) → i < length xs → x ≡ get_or xs i x → first_in f (take i xs) ≡ None → (o : Option X) → f x ≡ o → is_some o ≡ true → o ≡ first_in f xs
  hit_at f xs i x low is before None e some = absurd (cc)
  hit_at f xs i x low is before (Some y) e some = sym (first_hit f xs i x y low is before e)

  pub found : (f : N → Option X) (xs : List N) (i : ℕ) (x : N) → i < length xs → x ≡ get_or xs i x → first_in f (take i xs) ≡ None → is_some (f x) ≡ true → f x ≡ first_in f xs
  found f xs i x low is before some = hit_at f xs i x low is before (f x) refl some

  pub missed : (f : N → Option X) (xs : List N) (i : ℕ) (x : N) → i < length xs → x ≡ get_or xs i x → first_in f (take i xs) ≡ None → is_some (f x) ≡ false → first_in f (take (i + 1) xs) ≡ None
  missed f xs i x low is before none = first_more f xs i x low is ∙ ap (λ o. or_else o (f x)) before ∙ none_of (f x) none
