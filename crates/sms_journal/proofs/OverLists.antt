-- Lists that a loop builds.
use Rattle.std.proofs.Common.{◌≡◌, ◌⊎◌, inl, inr, ℕ, zero, suc, ◌+◌, ◌<◌, ◌≤◌, List, [], ◌∷◌, ◌++◌, length, map, take, refl, sym, ap, ◌∙◌, subst, get_or, add-one, arith}
use Rattle.std.specs.Prelude.{min}
use Rattle.std.specs.List.{AllZip}
use Rattle.std.proofs.lemmas.List.{map-append}

module _ {A B : Type 0} where
  more : (R : A → B → Type 0) (xs : List A) (ys : List B) (i : ℕ) (x : A) (y : B) → i < length xs → x ≡ get_or xs i x → AllZip R (take i xs) ys → R x y → AllZip R (take (suc i) xs) (ys ++ y ∷ [])
  more R [] ys i x y low is all here = absurd (omega arith)
  more R (z ∷ xs) [] zero x y low is all here = (subst (λ (a : A). R a y) is here, tt)
  more R (z ∷ xs) (w ∷ ys) zero x y low is all here = absurd all
  more R (z ∷ xs) [] (suc i) x y low is all here = absurd all
  more R (z ∷ xs) (w ∷ ys) (suc i) x y low is all here = (all.0, more R xs ys i x y (omega arith) is all.1 here)

  pub zip_more : (R : A → B → Type 0) (xs : List A) (ys : List B) (i : ℕ) (x : A) (y : B) → i < length xs → x ≡ get_or xs i x → AllZip R (take i xs) ys → R x y → AllZip R (take (i + 1) xs) (ys ++ y ∷ [])
  zip_more R xs ys i x y low is all here = rw add-one (more R xs ys i x y low is all here)

  -- one bound of two is reached
  pub reached : (xs : List A) (ys : List B) (k : ℕ) → min (length xs) (length ys) ≤ k → (length xs ≤ k) ⊎ (length ys ≤ k)
  reached [] ys k h = inl (omega arith)
  reached (x ∷ xs) [] k h = inr (omega arith)
  reached (x ∷ xs) (y ∷ ys) zero h = absurd (omega arith)
  reached (x ∷ xs) (y ∷ ys) (suc k) h = elim (reached xs ys k (omega arith)) [ inl low ↦ inl (omega arith) | inr low ↦ inr (omega arith) ]

-- an element that is there is the same, whatever stands for one that isn't
pub got_any : {B : Type 0} (xs : List B) (k : ℕ) (d e : B) → k < length xs → get_or xs k d ≡ get_or xs k e
got_any [] k d e low = absurd (omega arith)
got_any (x ∷ xs) zero d e low = refl
got_any (x ∷ xs) (suc k) d e low = got_any xs k d e (omega arith)

-- what two lists say of their elements, with one more
module _ {A B C : Type 0} (f : A → C) (g : B → C) where
  taken : (xs : List B) (k : ℕ) (y : B) → k < length xs → y ≡ get_or xs k y → take (suc k) (map g xs) ≡ take k (map g xs) ++ g y ∷ []
  taken [] k y low is = absurd (omega arith)
  taken (x ∷ xs) zero y low is = ap (λ z. g z ∷ []) (sym is)
  taken (x ∷ xs) (suc k) y low is = ap (λ l. g x ∷ l) (taken xs k y (omega arith) is)

  pub map_more : (made more : List A) (xs : List B) (k : ℕ) (x : A) (y : B) → more ≡ made ++ x ∷ [] → k < length xs → y ≡ get_or xs k y → f x ≡ g y → map f made ≡ take k (map g xs)
      → map f more ≡ take (k + 1) (map g xs)
  map_more made more xs k x y adds low is same e =
      rw add-one (ap (map f) adds ∙ map-append f made (x ∷ []) ∙ (λ i. e i ++ same i ∷ []) ∙ sym (taken xs k y low is))

-- a list that is made of another's elements, with one more
module _ {A B : Type 0} (f : B → A) where
  made_snoc : (xs : List B) (k : ℕ) (y : B) → k < length xs → y ≡ get_or xs k y → take (suc k) (map f xs) ≡ take k (map f xs) ++ f y ∷ []
  made_snoc [] k y low is = absurd (omega arith)
  made_snoc (x ∷ xs) zero y low is = ap (λ (z : B). f z ∷ []) (sym is)
  made_snoc (x ∷ xs) (suc k) y low is = ap (λ (l : List A). f x ∷ l) (made_snoc xs k y (omega arith) is)

  pub made_more : (made more : List A) (xs : List B) (k : ℕ) (y : B) → more ≡ made ++ f y ∷ [] → k < length xs → y ≡ get_or xs k y → made ≡ take k (map f xs) → more ≡ take (k + 1) (map f xs)
  made_more made more xs k y adds low is e = rw add-one (adds ∙ ap (λ (l : List A). l ++ f y ∷ []) e ∙ sym (made_snoc xs k y low is))

  pub made_all : (made : List A) (xs : List B) (k : ℕ) → length xs ≤ k → made ≡ take k (map f xs) → made ≡ map f xs
  made_all made xs k low e = e ∙ whole xs k low
    where
      whole : (ys : List B) (n : ℕ) → length ys ≤ n → take n (map f ys) ≡ map f ys
      whole [] zero low = refl
      whole [] (suc n) low = refl
      whole (y ∷ ys) zero low = absurd (omega arith)
      whole (y ∷ ys) (suc n) low = ap (λ (l : List A). f y ∷ l) (whole ys n (omega arith))
