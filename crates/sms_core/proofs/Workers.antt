-- What one worker holds, beside all holders.
use Rattle.std.proofs.Common.{◌≡◌, ◌≢◌, ℕ, ◌+◌, ◌≤◌, ◌==◌, Bool, true, false, ◌&&◌, List, [], ◌∷◌, refl, sym, ◌∙◌, arith, eq-eqb, ne_eqb}
use Rattle.std.specs.Prelude.{if◌then◌else◌}
use Rattle.std.proofs.lemmas.Bool.{eqb-true}
use Rattle.sms_core.specs.Holds.{is_slot, holders_of}
use Rattle.sms_core.specs.State.{is_pair, times_held}

abbrev one_if : Bool → ℕ
one_if b = if b then 1 else 0

one_of : (x z : Bool) → one_if (x && z) ≤ one_if z
one_of true true = omega arith
one_of true false = omega arith
one_of false true = omega arith
one_of false false = omega arith

one_of_two : (x y z : Bool) → (x ≡ true → y ≡ true → ⊥) → one_if (x && z) + one_if (y && z) ≤ one_if z
one_of_two true true z apart = absurd (apart refl refl)
one_of_two true false true apart = omega arith
one_of_two true false false apart = omega arith
one_of_two false true true apart = omega arith
one_of_two false true false apart = omega arith
one_of_two false false true apart = omega arith
one_of_two false false false apart = omega arith

pub own_at_most : (worker slot : ℕ) (ps : List (ℕ × ℕ)) → times_held worker slot ps ≤ holders_of slot ps
own_at_most worker slot [] = omega arith
own_at_most worker slot (p ∷ ps) =
    let one : is_pair worker slot p ≤ is_slot slot p = one_of (p.0 == worker) (p.1 == slot) in
    let rest = own_at_most worker slot ps in
    omega arith

pub two_at_most : (worker other slot : ℕ) → worker ≢ other → (ps : List (ℕ × ℕ)) → times_held worker slot ps + times_held other slot ps ≤ holders_of slot ps
two_at_most worker other slot ne [] = omega arith
two_at_most worker other slot ne (p ∷ ps) =
    let one : is_pair worker slot p + is_pair other slot p ≤ is_slot slot p =
    one_of_two (p.0 == worker) (p.0 == other) (p.1 == slot) (λ a b. ne (sym (eqb-true p.0 worker a) ∙ eqb-true p.0 other b)) in
    let rest = two_at_most worker other slot ne ps in
    omega arith

pub same_pair : (worker slot : ℕ) → is_pair worker slot (worker, slot) ≡ 1
same_pair worker slot = rw (eq-eqb worker worker refl, eq-eqb slot slot refl) refl

pub same_slot : {H : Type 0} (h : H) (slot : ℕ) → is_slot slot (h, slot) ≡ 1
same_slot h slot = rw (eq-eqb slot slot refl) refl

pub other_slot : {H : Type 0} (h : H) (slot other : ℕ) → other ≢ slot → is_slot slot (h, other) ≡ 0
other_slot h slot other ne = rw (ne_eqb other slot ne) refl

pub pair_at_most : (worker slot : ℕ) (p : ℕ × ℕ) → is_pair worker slot p ≤ is_slot slot p
pair_at_most worker slot p = one_of (p.0 == worker) (p.1 == slot)
