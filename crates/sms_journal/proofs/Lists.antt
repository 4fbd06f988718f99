-- Lists that a loop builds.
use Rattle.std.proofs.Common.{◌≡◌, ℕ, zero, suc, ◌+◌, ◌<◌, List, [], ◌∷◌, ◌++◌, length, take, Some, None, inl, inr, refl, sym, ap, ◌∙◌, subst, get_or, add-one, arith}
use Rattle.std.specs.Prelude.{Option, IfSome, IsNone, slice_get, flat_map}
use Rattle.std.proofs.lemmas.Option.{slice_get-get_or}
use Rattle.std.specs.List.{AllZip}
use Rattle.std.proofs.lemmas.List.{take_more}
use Rattle.std.proofs.lemmas.Grind.{flat_map-append}
use Rattle.std.proofs.Common.{append-nil}
use Rattle.sms_files.proofs.Lists.{got_of_append}

module _ {X : Type 0} where
  pub got_before : (xs : List X) (y : X) (q : ℕ) (z : X) → slice_get xs q ≡ Some z → slice_get (xs ++ y ∷ []) q ≡ Some z
  got_before [] y q z e = absurd (cc)
  got_before (x ∷ xs) y zero z e = e
  got_before (x ∷ xs) y (suc q) z e = got_before xs y q z e

  pub got_last : (xs : List X) (y : X) → slice_get (xs ++ y ∷ []) (length xs) ≡ Some y
  got_last [] y = refl
  got_last (x ∷ xs) y = got_last xs y

  pub each_more : (P : ℕ → X → Type 0) (xs : List X) (n : ℕ) (x : X) (ys : List X) → length xs ≡ n → ((p : ℕ) (s : X) → slice_get xs p ≡ Some s → P p s) → P n x → ys ≡ xs ++ x ∷ []
      → (p : ℕ) (s : X) → slice_get ys p ≡ Some s → P p s
  each_more P xs n x ys long before here is p s there =
      elim (got_of_append xs x p s (rw is at there)) [
        | inl h ↦ before p s h
        | inr h ↦ subst (λ (q : ℕ). P q s) (sym long ∙ sym h.0) (subst (λ (t : X). P n t) (sym h.1) here)
      ]

module _ {A B : Type 0} where
  more : (R : A → B → Type 0) (xs : List A) (ys : List B) (i : ℕ) (x : A) (y : B) → i < length xs → x ≡ get_or xs i x → AllZip R (take i xs) ys → R x y → AllZip R (take (suc i) xs) (ys ++ y ∷ [])
  more R [] ys i x y low is all here = absurd (omega arith)
  more R (z ∷ xs) [] zero x y low is all here = (subst (λ (a : A). R a y) is here, tt)
  more R (z ∷ xs) (w ∷ ys) zero x y low is all here = absurd all
  more R (z ∷ xs) [] (suc i) x y low is all here = absurd all
  more R (z ∷ xs) (w ∷ ys) (suc i) x y low is all here = (all.0, more R xs ys i x y (omega arith) is all.1 here)

  pub zip_more : (R : A → B → Type 0) (xs : List A) (ys : List B) (i : ℕ) (x : A) (y : B) → i < length xs → x ≡ get_or xs i x → AllZip R (take i xs) ys → R x y → AllZip R (take (i + 1) xs) (ys ++ y ∷ [])
  zip_more R xs ys i x y low is all here = rw add-one (more R xs ys i x y low is all here)

  -- what f makes of each of a front, with one more
  pub flat_more : (f : A → List B) (xs : List A) (i : ℕ) (x : A) → i < length xs → x ≡ get_or xs i x → flat_map f (take (i + 1) xs) ≡ flat_map f (take i xs) ++ f x
  flat_more f xs i x low is =
      ap (flat_map f) (take_more xs i x low) ∙ flat_map-append f (take i xs) (get_or xs i x ∷ [])
      ∙ ap (λ l. flat_map f (take i xs) ++ l) (append-nil (f (get_or xs i x)) ∙ ap f (sym is))

module _ {X : Type 0} where
  -- the first elements with one more
  snoc : (xs : List X) (k : ℕ) (x : X) → slice_get xs k ≡ Some x → take (suc k) xs ≡ take k xs ++ x ∷ []
  snoc [] k x e = absurd (cc)
  snoc (y ∷ ys) zero x e = let same : y ≡ x = cc in ap (λ z. z ∷ []) same
  snoc (y ∷ ys) (suc k) x e = ap (λ l. y ∷ l) (snoc ys k x e)

  pub take_snoc : (xs : List X) (k : ℕ) (x : X) → slice_get xs k ≡ Some x → take (k + 1) xs ≡ take k xs ++ x ∷ []
  take_snoc xs k x e = rw add-one (snoc xs k x e)

  pub length_front : (xs : List X) (k : ℕ) (x : X) → slice_get xs k ≡ Some x → length (take k xs) ≡ k
  length_front [] k x e = absurd (cc)
  length_front (y ∷ ys) zero x e = refl
  length_front (y ∷ ys) (suc k) x e = ap suc (length_front ys k x e)

  -- fronts of a list with one more
  pub take_within : (xs : List X) (y : X) (k : ℕ) (x : X) → slice_get xs k ≡ Some x → take k (xs ++ y ∷ []) ≡ take k xs
  take_within [] y k x e = absurd (cc)
  take_within (z ∷ xs) y zero x e = refl
  take_within (z ∷ xs) y (suc k) x e = ap (λ l. z ∷ l) (take_within xs y k x e)

  pub take_before : (xs : List X) (y : X) → take (length xs) (xs ++ y ∷ []) ≡ xs
  take_before [] y = refl
  take_before (z ∷ xs) y = ap (λ l. z ∷ l) (take_before xs y)

  pub got_at : (xs : List X) (i : ℕ) (x : X) → i < length xs → x ≡ get_or xs i x → slice_get xs i ≡ Some x
  got_at xs i x low is = slice_get-get_or xs i x low ∙ ap Some (sym is)

  pub some_of : (P : X → Type 0) (o : Option X) (x : X) → o ≡ Some x → IfSome o P → P x
  some_of P None x e h = absurd (cc)
  some_of P (Some y) x e h = let same : y ≡ x = cc in subst P same h

  pub none_of : (o : Option X) → o ≡ None → IsNone o
  none_of None e = refl
  none_of (Some x) e = absurd (cc)
