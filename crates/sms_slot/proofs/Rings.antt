-- Lists of rings in which one changes, and logs that grow.
use Rattle.std.proofs.Common.{◌≡◌, ◌≢◌, ℕ, zero, suc, ◌+◌, ◌<◌, ◌≤◌, ◌==◌, true, false, if◌then◌else◌, List, [], ◌∷◌, ◌++◌, length, set, map, get_or, Option, None, Some, refl, sym, ap, ◌∙◌, subst, arith, append_assoc, append-nil, eqb-true}
use Rattle.std.specs.List.{AllZip}
use Rattle.std.proofs.lemmas.List.{map-set, get_or-map, get_or-set_other, get_or-set_same, length-map}
use Rattle.std.proofs.lemmas.Bool.{eqb-false}
use Rattle.std.proofs.Math.Seq.{map-set_same}
use Rattle.rtrb.specs.Ring.{SameProducer}
use Rattle.rtrb.specs.declared.producer.Producer.{Producer}
use Rattle.sms_slot.specs.declared.slot.SlotDelivery.TheVariants.{Matched, Overrun}
use Rattle.sms_slot.specs.Rings.{pushed, pushed_to, handed, count_handed, went_to, Room}

module _ {A : Type 0} (R : A → A → Type 0) where
  pub AllZip-refl : ((x : A) → R x x) → (xs : List A) → AllZip R xs xs
  AllZip-refl r [] = tt
  AllZip-refl r (x ∷ xs) = (r x, AllZip-refl r xs)

  pub AllZip-trans : ((x y z : A) → R x y → R y z → R x z) → (xs ys zs : List A) → AllZip R xs ys → AllZip R ys zs → AllZip R xs zs
  AllZip-trans t [] [] [] p q = tt
  AllZip-trans t [] [] (z ∷ zs) p q = absurd q
  AllZip-trans t [] (y ∷ ys) zs p q = absurd p
  AllZip-trans t (x ∷ xs) [] zs p q = absurd p
  AllZip-trans t (x ∷ xs) (y ∷ ys) [] p q = absurd q
  AllZip-trans t (x ∷ xs) (y ∷ ys) (z ∷ zs) p q = (t x y z p.0 q.0, AllZip-trans t xs ys zs p.1 q.1)

  -- one element is replaced by one that it is related to
  pub AllZip-set : ((x : A) → R x x) → (xs : List A) (i : ℕ) (d y : A) → i < length xs → R (get_or xs i d) y → AllZip R xs (set xs i y)
  AllZip-set r [] i d y low h = absurd (omega arith)
  AllZip-set r (z ∷ xs) zero d y low h = (h, AllZip-refl r xs)
  AllZip-set r (z ∷ xs) (suc i) d y low h = (r z, AllZip-set r xs i d y (omega arith) h)

-- each ring is the ring that it was
pub same_rings : {T A P : Type 0} (ps : List (Producer T A P)) → AllZip SameProducer ps ps
same_rings ps = AllZip-refl SameProducer (λ p. ((refl, refl, refl, refl), refl)) ps

-- one ring is replaced by itself after a call on it
pub set_ring : {T A P : Type 0} (ps : List (Producer T A P)) (i : ℕ) (d p : Producer T A P) → i < length ps → SameProducer (get_or ps i d) p → AllZip SameProducer ps (set ps i p)
set_ring ps i d p low same = AllZip-set SameProducer (λ q. ((refl, refl, refl, refl), refl)) ps i d p low same

-- the list at a place gained an element
pub map_set_pushed : {A X : Type 0} (f : A → List X) (xs : List A) (i : ℕ) (d y : A) (v : X) → i < length xs → f y ≡ f (get_or xs i d) ++ v ∷ [] → map f (set xs i y) ≡ pushed (map f xs) i v
map_set_pushed f [] i d y v low h = absurd (omega arith)
map_set_pushed f (z ∷ xs) zero d y v low h = ap (λ l. l ∷ map f xs) h
map_set_pushed f (z ∷ xs) (suc i) d y v low h = ap (λ l. f z ∷ l) (map_set_pushed f xs i d y v (omega arith) h)

-- a ring with no room that is known
pub none_free : (n : ℕ) → ¬ (0 < n) → n ≡ 0
none_free n none = omega arith

module _ {A : Type 0} (f : A → ℕ) where
  -- past the end the number is 0
  pub map_past : (xs : List A) (i : ℕ) → length xs ≤ i → get_or (map f xs) i 0 ≡ 0
  map_past [] i high = refl
  map_past (z ∷ xs) zero high = absurd (omega arith)
  map_past (z ∷ xs) (suc i) high = map_past xs i (omega arith)

  -- a ring that took an answer lost one place at most
  pub room_taken : (xs : List A) (i : ℕ) (d y : A) → i < length xs → f (get_or xs i d) ≤ f y + 1 → Room (Matched i) (map f xs) (map f (set xs i y))
  room_taken xs i d y low less =
      let before : get_or (map f xs) i 0 ≡ f (get_or xs i d) = get_or-map f xs i d 0 low in
      let within : i < length (map f xs) = omega (arith, length-map xs f) in
      let after : get_or (map f (set xs i y)) i 0 ≡ f y = ap (λ l. get_or l i 0) (map-set f xs i y) ∙ get_or-set_same (map f xs) i (f y) 0 within in
      (omega arith, (λ place other. ap (λ l. get_or l place 0) (map-set f xs i y) ∙ get_or-set_other (map f xs) i place (f y) 0 other))

  -- a ring that gave an answer back had no room that was known, and has none
  pub room_given_back : (xs : List A) (i : ℕ) (d y : A) → i < length xs → f (get_or xs i d) ≡ 0 → f y ≡ 0 → Room (Overrun i) (map f xs) (map f (set xs i y))
  room_given_back xs i d y low none still = (get_or-map f xs i d 0 low ∙ none, map-set_same f xs i y d (still ∙ sym none))

-- one log after another
pub handed-append : {X : Type 0} (ls : List (List X)) (es fs : List (X × Option ℕ)) → handed ls (es ++ fs) ≡ handed (handed ls es) fs
handed-append ls [] fs = refl
handed-append ls (e ∷ es) fs = handed-append (pushed_to ls e.0 e.1) es fs

pub count_handed-append : {X : Type 0} (es fs : List (X × Option ℕ)) → count_handed (es ++ fs) ≡ count_handed es + count_handed fs
count_handed-append [] fs = omega arith
count_handed-append ((y, None) ∷ es) fs = count_handed-append es fs
count_handed-append ((y, Some k) ∷ es) fs = let e = count_handed-append es fs in omega (arith, e)

-- as many rings as there were
pub length-pushed : {X : Type 0} (ls : List (List X)) (place : ℕ) (x : X) → length (pushed ls place x) ≡ length ls
length-pushed [] place x = refl
length-pushed (l ∷ ls) zero x = refl
length-pushed (l ∷ ls) (suc place) x = ap suc (length-pushed ls place x)

pub length-pushed_to : {X : Type 0} (ls : List (List X)) (x : X) (place : Option ℕ) → length (pushed_to ls x place) ≡ length ls
length-pushed_to ls x None = refl
length-pushed_to ls x (Some place) = length-pushed ls place x

pub length-handed : {X : Type 0} (ls : List (List X)) (es : List (X × Option ℕ)) → length (handed ls es) ≡ length ls
length-handed ls [] = refl
length-handed ls (e ∷ es) = length-handed (pushed_to ls e.0 e.1) es ∙ length-pushed_to ls e.0 e.1

-- a ring in the list has sent what it had sent, and then what the log says it took, in order
module _ {X : Type 0} where
  pushed-here : (ls : List (List X)) (i : ℕ) (x : X) → i < length ls → get_or (pushed ls i x) i [] ≡ get_or ls i [] ++ x ∷ []
  pushed-here [] i x low = absurd (omega arith)
  pushed-here (l ∷ ls) zero x low = refl
  pushed-here (l ∷ ls) (suc i) x low = pushed-here ls i x (omega arith)

  pushed-there : (ls : List (List X)) (p i : ℕ) (x : X) → p ≢ i → get_or (pushed ls p x) i [] ≡ get_or ls i []
  pushed-there [] p i x other = refl
  pushed-there (l ∷ ls) zero zero x other = absurd (other refl)
  pushed-there (l ∷ ls) zero (suc i) x other = refl
  pushed-there (l ∷ ls) (suc p) zero x other = refl
  pushed-there (l ∷ ls) (suc p) (suc i) x other = pushed-there ls p i x (λ e. other (ap suc e))

  pub handed-at : (ls : List (List X)) (es : List (X × Option ℕ)) (i : ℕ) → i < length ls → get_or (handed ls es) i [] ≡ get_or ls i [] ++ went_to i es
  handed-at ls [] i low = sym (append-nil (get_or ls i []))
  handed-at ls ((x, None) ∷ es) i low = handed-at ls es i low
  handed-at ls ((x, Some p) ∷ es) i low =
      let later : get_or (handed (pushed ls p x) es) i [] ≡ get_or (pushed ls p x) i [] ++ went_to i es = handed-at (pushed ls p x) es i (omega (arith, length-pushed ls p x)) in
      elim (p == i) as (λ b. p == i ≡ b → get_or (handed (pushed ls p x) es) i [] ≡ get_or ls i [] ++ (if b then x ∷ went_to i es else went_to i es)) [
        | true ↦ λ same. let here : get_or (pushed ls p x) i [] ≡ get_or ls i [] ++ x ∷ [] = subst (λ q. get_or (pushed ls q x) i [] ≡ get_or ls i [] ++ x ∷ []) (sym (eqb-true p i same)) (pushed-here ls i x low) in
            later ∙ ap (λ l. l ++ went_to i es) here ∙ append_assoc (get_or ls i []) (x ∷ []) (went_to i es)
        | false ↦ λ other. later ∙ ap (λ l. l ++ went_to i es) (pushed-there ls p i x (eqb-false p i other))
      ] refl
