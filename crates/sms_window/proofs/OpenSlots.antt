-- A slot more, and a slot less.
use Rattle.std.proofs.Common.{◌≡◌, ℕ, zero, suc, ◌+◌, ◌-◌, ◌^◌, ◌<◌, ◌≤◌, List, [], ◌∷◌, ◌++◌, map, take, drop, Some, refl, sym, ap, ◌∙◌, subst, arith, eq-eqb, ne_eqb}
use Rattle.std.specs.Prelude.{slice_get}
use Rattle.std.specs.Int.{bit_at}
use mathlib.Core.Logic.{dite}
use native.Mathlib.Decide.{ℕ_discrete}
use Rattle.std.proofs.lemmas.List.{map-append}
use Rattle.std.proofs.lemmas.Nat.Bits.{bit_at-lt, bit_at-zero, bit_at-pow_same, bit_at-pow_other}
use Rattle.sms_core.specs.Limits.{most_slots}
use Rattle.sms_core.specs.Numbers.{times, AllBelow}
use Rattle.sms_core.proofs.Bits.{bit_at_add}
use Rattle.sms_core.proofs.Numbers.{times_append, below_append}
use Rattle.sms_window.specs.declared.view.View.{View}
use Rattle.sms_window.specs.OpenSlots.{word_of_slots, IsOpen, NoneMore, OneMore, OneLess}

one_of : (x k : ℕ) → bit_at (2 ^ x) k ≡ times k (x ∷ [])
one_of x k = dite (ℕ_discrete x k)
    (λ e. let a : bit_at (2 ^ x) k ≡ 1 = ap (bit_at (2 ^ x)) (sym e) ∙ bit_at-pow_same x in rw (eq-eqb x k e) (omega arith))
    (λ ne. let a = bit_at-pow_other x k (λ e. ne (sym e)) in rw (ne_eqb x k ne) (omega arith))

-- the bits of distinct slots
bits_of : (xs : List ℕ) → ((k : ℕ) → times k xs ≤ 1) → (k : ℕ) → bit_at (word_of_slots xs) k ≡ times k xs
bits_of [] once k = bit_at-zero k
bits_of (x ∷ xs) once k =
    let rest : (i : ℕ) → times i xs ≤ 1 = λ i. let h = once i in omega arith in
    bit_at_add (2 ^ x) (word_of_slots xs) (λ i. let h = once i in let e = bits_of xs rest i in let o = one_of x i in omega arith) k ∙ (let e = bits_of xs rest k in let o = one_of x k in omega arith)

-- a slot is one of the base, or open
pub bits_beside : (base slots : ℕ) (xs : List ℕ) → IsOpen base xs slots → (k : ℕ) → bit_at slots k ≡ bit_at base k + times k xs
bits_beside base slots xs o k =
    let once : (i : ℕ) → times i xs ≤ 1 = λ i. let h = o.apart i in omega arith in
    ap (λ (n : ℕ). bit_at n k) o.sum ∙ bit_at_add base (word_of_slots xs) (λ i. let h = o.apart i in let e = bits_of xs once i in omega arith) k ∙ (let e = bits_of xs once k in omega arith)

word_of_slots-append : (xs ys : List ℕ) → word_of_slots (xs ++ ys) ≡ word_of_slots xs + word_of_slots ys
word_of_slots-append [] ys = omega arith
word_of_slots-append (x ∷ xs) ys = omega (arith, word_of_slots-append xs ys)

-- of two lists, each is below the top where they are below it together
below_parts : (top : ℕ) (xs ys : List ℕ) → AllBelow top (xs ++ ys) → AllBelow top xs × AllBelow top ys
below_parts top [] ys a = (tt, a)
below_parts top (x ∷ xs) ys a = let r = below_parts top xs ys a.1 in ((a.0, r.0), r.1)

pub none_more : (base : ℕ) → IsOpen base [] base
none_more base = record { sum = omega arith; apart = λ k. let l = bit_at-lt base k in omega arith; small = tt }

pub none_left : (base slots : ℕ) → IsOpen base [] slots → slots ≡ base
none_left base slots o = let s = o.sum in omega arith

pub one_more : (base slots later x : ℕ) (xs : List ℕ) → IsOpen base xs slots → x < most_slots → bit_at slots x ≡ 0 → later ≡ slots + 2 ^ x → IsOpen base (xs ++ x ∷ []) later
one_more base slots later x xs o lt free e = record {
  sum = let w = word_of_slots-append xs (x ∷ []) in let s = o.sum in omega arith;
  apart = λ k.
      let t = times_append k xs (x ∷ []) in
      let b = bits_beside base slots xs o k in
      let a = o.apart k in
      let one = one_of x k in
      dite (ℕ_discrete k x)
      (λ same. let f : bit_at slots k ≡ 0 = ap (bit_at slots) same ∙ free in let l = bit_at-lt (2 ^ x) k in omega arith)
      (λ ne. let z = bit_at-pow_other x k ne in omega arith);
  small = below_append most_slots xs (x ∷ []) o.small (lt, tt);
}

-- a slot that is open is held, and without it the others are open
pub record OneOpen (base slots x : ℕ) (others : List ℕ) : Type 0 where
  pub within : x < most_slots
  pub held : bit_at slots x ≡ 1
  pub rest : IsOpen base others (slots - 2 ^ x)

pub one_less : (base slots x : ℕ) (xs ys : List ℕ) → IsOpen base (xs ++ x ∷ ys) slots → OneOpen base slots x (xs ++ ys)
one_less base slots x xs ys o =
    let w = word_of_slots-append xs (x ∷ ys) in
    let w' = word_of_slots-append xs ys in
    let s = o.sum in
    let parts = below_parts most_slots xs (x ∷ ys) o.small in
    let below = parts.1 in
    let b = bits_beside base slots (xs ++ x ∷ ys) o x in
    let t = times_append x xs (x ∷ ys) in
    let one : times x (x ∷ ys) ≡ 1 + times x ys = rw (eq-eqb x x refl) (omega arith) in
    let a = o.apart x in
    record {
      within = below.0;
      held = omega arith;
      rest = record {
        sum = omega arith;
        apart = λ k. let h = o.apart k in let u = times_append k xs (x ∷ ys) in let u' = times_append k xs ys in omega arith;
        small = below_append most_slots xs ys parts.0 below.1;
      };
    }

-- the last one
pub one_last : (base slots x : ℕ) (xs : List ℕ) → IsOpen base (xs ++ x ∷ []) slots → OneOpen base slots x xs
one_last base slots x xs o = subst (OneOpen base slots x) (append_nil xs) (one_less base slots x xs [] o)
  where
    append_nil : (l : List ℕ) → l ++ [] ≡ l
    append_nil [] = refl
    append_nil (y ∷ l) = ap (λ (m : List ℕ). y ∷ m) (append_nil l)

-- the one at the place i of a list of things that have slots, as `Vec::remove` leaves the others
pub one_less_at : {A : Type 0} (slot_of : A → ℕ) (base slots : ℕ) (xs : List A) (i : ℕ) (x : A) → IsOpen base (map slot_of xs) slots → slice_get xs i ≡ Some x
    → OneOpen base slots (slot_of x) (map slot_of (take i xs ++ drop (suc i) xs))
one_less_at {A} slot_of base slots xs i x o at =
    let front : List ℕ = map slot_of (take i xs) in
    let back : List ℕ = map slot_of (drop (suc i) xs) in
    let whole : map slot_of xs ≡ front ++ slot_of x ∷ back = ap (map slot_of) (parted xs i x at) ∙ map-append slot_of (take i xs) (x ∷ drop (suc i) xs) in
    subst (OneOpen base slots (slot_of x)) (sym (map-append slot_of (take i xs) (drop (suc i) xs)))
    (one_less base slots (slot_of x) front back (subst (λ (l : List ℕ). IsOpen base l slots) whole o))
  where
    parted : (l : List A) (k : ℕ) (y : A) → slice_get l k ≡ Some y → l ≡ take k l ++ y ∷ drop (suc k) l
    parted [] k y e = absurd (cc)
    parted (z ∷ l) zero y e = let same : z ≡ y = cc in ap (λ (u : A). u ∷ l) same
    parted (z ∷ l) (suc k) y e = ap (λ (m : List A). z ∷ m) (parted l k y e)

pub none_more_law : NoneMore
none_more_law base slots = ((λ o. none_left base slots o), (λ e. subst (IsOpen base []) (sym e) (none_more base)))

pub one_more_law : OneMore
one_more_law base more v w slot o got = one_more base v.slots w.slots slot more o got.now.0 got.claim.1.free (ap (λ (u : View). u.slots) got.after)

pub one_less_law : OneLess
one_less_law base xs ys v slot o =
    let t = one_less base v.slots slot xs ys o in
    ((t.within, t.held), (λ w freed. subst (IsOpen base (xs ++ ys)) (sym (ap (λ (u : View). u.slots) freed.after)) t.rest))
