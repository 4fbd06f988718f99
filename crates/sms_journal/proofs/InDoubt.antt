-- Parts in doubt, as a run's ends have them, and the decisions of them.
use Rattle.std.proofs.Common.{◌≡◌, ℕ, suc, zero, ◌+◌, ◌-◌, ◌<◌, ◌≤◌, Bool, false, List, [], ◌∷◌, ◌++◌, Some, None, refl, sym, ap, ◌∙◌, subst, get_or, length, map, take, arith}
use Rattle.std.specs.Prelude.{◌≢◌, ◌==◌, Option, slice_get, if◌then◌else◌}
use Rattle.std.specs.List.{AllZip}
use Rattle.std.proofs.lemmas.Bool.Decides.{nat_tests}
use Rattle.sms_message.specs.declared.ends.MessageEnd.{MessageEnd}
use Rattle.sms_message.specs.Ends.{segment_at, segments_in}
use Rattle.sms_journal.specs.Decided.{cost_in_doubt, doubted}
use Rattle.sms_journal.proofs.Lists.{zip_more}

module _ {S : Type 0} where
  pub segment_in : (es : List (MessageEnd S)) (m p : ℕ) (e : MessageEnd S) → slice_get es m ≡ Some e → segment_at es m p ≡ slice_get (segments_in e.result) p
  segment_in [] m p e at = absurd (cc)
  segment_in (x ∷ es) zero p e at = let same : x ≡ e = cc in ap (λ (y : MessageEnd S). slice_get (segments_in y.result) p) same
  segment_in (x ∷ es) (suc m) p e at = segment_in es m p e at

  pub nothing_at : (es : List (MessageEnd S)) (m : ℕ) → length es ≤ m → slice_get es m ≡ None
  nothing_at [] m high = refl
  nothing_at (x ∷ es) zero high = absurd (omega (arith, high))
  nothing_at (x ∷ es) (suc m) high = nothing_at es m (omega (arith, high))

  pub no_segment : (es : List (MessageEnd S)) (m p : ℕ) → slice_get es m ≡ None → segment_at es m p ≡ None
  no_segment [] m p none = refl
  no_segment (x ∷ es) zero p none = absurd (cc)
  no_segment (x ∷ es) (suc m) p none = no_segment es m p none

-- ---- what a part costs that is in doubt

not_zero : (p : ℕ) → p ≢ 0 → (p == 0) ≡ false
not_zero p some = grind (arith, nat_tests)

module _ (ends : List (MessageEnd (Unit {0}))) (m p place : ℕ) (some : p ≢ 0) where
  of_part : (o : Option ℕ) → cost_in_doubt (segment_at ends m (p - 1)) ≡ o → o ≡ doubted ends m p
  of_part o is = sym is ∙ sym (ap (λ (b : Bool). if b then None else cost_in_doubt (segment_at ends m (p - 1))) (not_zero p some))

  pub doubted_there : (e : MessageEnd (Unit {0})) (cost : Option ℕ) → slice_get ends m ≡ Some e → place ≡ p - 1 → cost ≡ cost_in_doubt (slice_get (segments_in e.result) place) → cost ≡ doubted ends m p
  doubted_there e cost at is so = of_part cost (ap cost_in_doubt (segment_in ends m (p - 1) e at) ∙ ap (λ (n : ℕ). cost_in_doubt (slice_get (segments_in e.result) n)) (sym is) ∙ sym so)

  pub doubted_nowhere : slice_get ends m ≡ None → None ≡ doubted ends m p
  doubted_nowhere none = of_part None (ap cost_in_doubt (no_segment ends m (p - 1) none))

-- ---- a list that is made of another's images

module _ {A B : Type 0} (f : A → B) where
  pub take_map : (xs : List A) (k : ℕ) → map f (take k xs) ≡ take k (map f xs)
  take_map [] zero = refl
  take_map [] (suc k) = refl
  take_map (x ∷ xs) zero = refl
  take_map (x ∷ xs) (suc k) = ap (λ (l : List B). f x ∷ l) (take_map xs k)

  pub got_mapped : (xs : List A) (k : ℕ) (x : A) → k < length xs → x ≡ get_or xs k x → (k < length (map f xs)) × (f x ≡ get_or (map f xs) k (f x)) × (slice_get (map f xs) k ≡ Some (f x))
  got_mapped [] k x low is = absurd (omega (arith, low))
  got_mapped (y ∷ ys) zero x low is = (omega arith, ap f is, ap (λ (z : A). Some (f z)) (sym is))
  got_mapped (y ∷ ys) (suc k) x low is = let r = got_mapped ys k x (omega (arith, low)) is in (omega (arith, r.0), r.1, r.2)

module _ {A B C : Type 0} (f : A → B) where
  pub mapped_more : (R : B → C → Type 0) (xs : List A) (ys new : List C) (k : ℕ) (x : A) (y : C) → k < length xs → x ≡ get_or xs k x → AllZip R (map f (take k xs)) ys → R (f x) y → new ≡ ys ++ y ∷ [] → AllZip R (map f (take (k + 1) xs)) new
  mapped_more R xs ys new k x y low is all here grows =
      let got = got_mapped f xs k x low is in
      let more : AllZip R (take (k + 1) (map f xs)) (ys ++ y ∷ []) = zip_more R (map f xs) ys k (f x) y got.0 got.1 (subst (λ (l : List B). AllZip R l ys) (take_map f xs k) all) here in
      subst (λ (l : List C). AllZip R (map f (take (k + 1) xs)) l) (sym grows) (subst (λ (l : List B). AllZip R l (ys ++ y ∷ [])) (sym (take_map f xs (k + 1))) more)
