-- Places of lists, and lists that a loop builds or goes through.
use Rattle.std.proofs.Common.{◌≡◌, ℕ, zero, suc, ◌+◌, ◌<◌, ◌≤◌, List, [], ◌∷◌, ◌++◌, length, take, drop, get_or, Some, None, inl, inr, refl, sym, ap, subst, add-one, arith}
use Rattle.std.specs.Prelude.{◌⊎◌, Option, slice_get, slice_set}

module _ {X : Type 0} where
  pub got_of_append : (xs : List X) (y : X) (q : ℕ) (z : X) → slice_get (xs ++ y ∷ []) q ≡ Some z → (slice_get xs q ≡ Some z) ⊎ ((q ≡ length xs) × (z ≡ y))
  got_of_append [] y zero z e = inr (refl, (cc))
  got_of_append [] y (suc q) z e = inl e
  got_of_append (x ∷ xs) y zero z e = inl e
  got_of_append (x ∷ xs) y (suc q) z e = elim (got_of_append xs y q z e) [ inl h ↦ inl h | inr h ↦ inr (ap suc h.0, h.1) ]

  pub got_low : (xs : List X) (q : ℕ) (z : X) → slice_get xs q ≡ Some z → q < length xs
  got_low [] q z e = absurd (cc)
  got_low (x ∷ xs) zero z e = omega arith
  got_low (x ∷ xs) (suc q) z e = let r = got_low xs q z e in omega (arith, r)

  pub got_is : (xs : List X) (q : ℕ) (d z : X) → d ≡ get_or xs q d → slice_get xs q ≡ Some z → z ≡ d
  got_is [] q d z is e = absurd (cc)
  got_is (x ∷ xs) zero d z is e = cc
  got_is (x ∷ xs) (suc q) d z is e = got_is xs q d z is e

  pub get_set_here : (xs : List X) (k : ℕ) (x y : X) → slice_get xs k ≡ Some x → slice_get (slice_set xs k y) k ≡ Some y
  get_set_here [] k x y e = absurd (cc)
  get_set_here (z ∷ xs) zero x y e = refl
  get_set_here (z ∷ xs) (suc k) x y e = get_set_here xs k x y e

  pub get_set_else : (xs : List X) (k j : ℕ) (y : X) → (k ≡ j → ⊥) → slice_get (slice_set xs k y) j ≡ slice_get xs j
  get_set_else [] k j y apart = refl
  get_set_else (z ∷ xs) zero zero y apart = absurd (apart refl)
  get_set_else (z ∷ xs) zero (suc j) y apart = refl
  get_set_else (z ∷ xs) (suc k) zero y apart = refl
  get_set_else (z ∷ xs) (suc k) (suc j) y apart = get_set_else xs k j y (λ e. apart (ap suc e))

  pub all_more : (P : X → Type 0) (xs : List X) (x : X) (ys : List X) → ((p : ℕ) (s : X) → slice_get xs p ≡ Some s → P s) → P x → ys ≡ xs ++ x ∷ [] → (p : ℕ) (s : X) → slice_get ys p ≡ Some s → P s
  all_more P xs x ys before here is p s there = elim (got_of_append xs x p s (rw is at there)) [ inl h ↦ before p s h | inr h ↦ subst P (sym h.1) here ]

  pub take_whole : (xs : List X) (i : ℕ) → length xs ≤ i → take i xs ≡ xs
  take_whole [] zero low = refl
  take_whole [] (suc i) low = refl
  take_whole (x ∷ xs) zero low = absurd (omega arith)
  take_whole (x ∷ xs) (suc i) low = ap (λ l. x ∷ l) (take_whole xs i (omega arith))

  pub drop_step : (xs : List X) (i : ℕ) (x : X) → i < length xs → x ≡ get_or xs i x → drop i xs ≡ x ∷ drop (i + 1) xs
  drop_step xs i x low is = rw add-one (step xs i x low is)
    where
      step : (xs : List X) (i : ℕ) (x : X) → i < length xs → x ≡ get_or xs i x → drop i xs ≡ x ∷ drop (suc i) xs
      step [] i x low is = absurd (omega (arith, low))
      step (y ∷ ys) zero x low is = ap (λ z. z ∷ ys) (sym is)
      step (y ∷ ys) (suc i) x low is = step ys i x (omega (arith, low)) is

  pub drop_whole : (xs : List X) (i : ℕ) → length xs ≤ i → drop i xs ≡ []
  drop_whole [] zero low = refl
  drop_whole [] (suc i) low = refl
  drop_whole (x ∷ xs) zero low = absurd (omega (arith, low))
  drop_whole (x ∷ xs) (suc i) low = drop_whole xs i (omega (arith, low))
