-- Reading parameters one after the other, as a loop does.
use Rattle.std.proofs.Common.{◌≡◌, ℕ, zero, suc, ◌+◌, ◌-◌, ◌<◌, ◌≤◌, Bool, true, false, cond, ltb, eqb, List, [], ◌∷◌, ◌++◌, length, Result, Ok, Err, refl, sym, ap, ◌∙◌, append_assoc, arith}
use Rattle.std.proofs.lemmas.Bool.{eqb-true}
use Rattle.std.proofs.lemmas.List.{append-nil, length-append, length-drop}
use Rattle.sms_pdu.specs.declared.error.PduError.{PduError}
use Rattle.sms_pdu.specs.declared.parameter.Parameter.{Parameter}
use Rattle.sms_pdu.specs.Reading.{◌>>=◌, parameter_at, parameters_within, parameters_at, parameter_count}

-- the value of a step that did not fail
-- both of two steps are done
pub record BothOk {A B : Type 0} (r : Result A PduError) (f : A → Result B PduError) (y : B) : Type 0 where
  pub value : A
  pub is : r ≡ Ok value
  pub rest : f value ≡ Ok y

pub bind_ok : {A B : Type 0} (r : Result A PduError) (f : A → Result B PduError) (y : B) → (r >>= f) ≡ Ok y → BothOk r f y
bind_ok (Ok x) f y e = record { value = x; is = refl; rest = e }
bind_ok (Err d) f y e = absurd cc

-- a test that did not fail
pub guard_ok : {A : Type 0} (b : Bool) (d : PduError) (x y : A) → cond b (Err d) (Ok x) ≡ Ok y → (b ≡ false) × (x ≡ y)
guard_ok true d x y e = absurd cc
guard_ok false d x y e = (refl, cc)

-- a first test that did not fail
pub guard_then : {A : Type 0} (b : Bool) (d : PduError) (r : Result A PduError) (y : A) → cond b (Err d) r ≡ Ok y → (b ≡ false) × (r ≡ Ok y)
guard_then true d r y e = absurd cc
guard_then false d r y e = (refl, e)

abbrev done : {A : Type 0} → A → Result A PduError
done x = Ok x

pub ok_is : {A : Type 0} (x y : A) → done x ≡ done y → x ≡ y
ok_is x y e = cc

-- a parameter takes octets off the front
pub parameter-shorter : (octets : List ℕ) (p : Parameter) (after : List ℕ) → 0 < length octets → parameter_at octets ≡ Ok (p, after) → length after < length octets
unfolding parameter_at
parameter-shorter octets p after lt e =
    let g = guard_then (ltb (length octets) 4) _ _ (p, after) e in
    let v = guard_ok _ _ _ (p, after) g.1 in
    let after-is = ap (λ (x : Parameter × List ℕ). length x.1) v.1 in
    omega (arith, after-is, length-drop {A = ℕ})

-- what was read before, and what is still read
abbrev pub with_front : List Parameter → Result (List Parameter) PduError → Result (List Parameter) PduError
with_front front read = read >>= λ xs. Ok (front ++ xs)

regroup : (front : List Parameter) (p : Parameter) (read : Result (List Parameter) PduError) → with_front front (read >>= λ xs. Ok (p ∷ xs)) ≡ with_front (front ++ p ∷ []) read
regroup front p (Ok xs) = ap (λ (ps : List Parameter). done ps) (simp append_assoc)
regroup front p (Err e) = refl

one_more : (front : List Parameter) (n : ℕ) (octets : List ℕ) (p : Parameter) (after : List ℕ) → 0 < length octets → parameter_at octets ≡ Ok (p, after)
    → with_front front (parameters_within (suc n) octets) ≡ with_front (front ++ p ∷ []) (parameters_within n after)
unfolding parameters_within
one_more front n [] p after lt h = absurd (omega arith)
one_more front n (x ∷ xs) p after lt h = rw h (regroup front p (parameters_within n after))

pub goes_on : (front : List Parameter) (size : ℕ) (octets : List ℕ) (p : Parameter) (after : List ℕ) (total : Result (List Parameter) PduError) → 0 < length octets → length front + length octets ≤ size → parameter_at octets ≡ Ok (p, after)
    → with_front front (parameters_within (size - length front) octets) ≡ total → with_front (front ++ p ∷ []) (parameters_within (size - (length front + 1)) after) ≡ total
goes_on front size octets p after total lt le h so_far =
    let k : size - length front ≡ suc (size - (length front + 1)) = omega arith in
    sym (one_more front (size - (length front + 1)) octets p after lt h) ∙ ap (λ (j : ℕ). with_front front (parameters_within j octets)) (sym k) ∙ so_far

failed_with : (front : List Parameter) (n : ℕ) (octets : List ℕ) (e : PduError) → 0 < length octets → parameter_at octets ≡ Err e → with_front front (parameters_within (suc n) octets) ≡ Err e
unfolding parameters_within
failed_with front n [] e lt h = absurd (omega arith)
failed_with front n (x ∷ xs) e lt h = rw h refl

pub ends : (e : PduError) (front : List Parameter) (size : ℕ) (octets : List ℕ) (total : Result (List Parameter) PduError) → 0 < length octets → length front + length octets ≤ size → parameter_at octets ≡ Err e
    → with_front front (parameters_within (size - length front) octets) ≡ total → total ≡ Err e
ends e front size octets total lt le h so_far =
    let k : size - length front ≡ suc (size - (length front + 1)) = omega arith in
    sym so_far ∙ ap (λ (j : ℕ). with_front front (parameters_within j octets)) k ∙ failed_with front (size - (length front + 1)) octets e lt h

pub is_done : (front : List Parameter) (n : ℕ) (octets : List ℕ) (total : Result (List Parameter) PduError) → length octets ≤ 0 → with_front front (parameters_within n octets) ≡ total → total ≡ Ok front
unfolding parameters_within
is_done front n [] total le so_far = sym so_far ∙ ap (λ (ps : List Parameter). done ps) (append-nil front)
is_done front n (x ∷ xs) total le so_far = absurd (omega arith)

-- where nothing is left there are no parameters
pub none_left : (octets : List ℕ) → length octets ≤ 0 → parameters_at octets ≡ Ok []
unfolding parameters_within
none_left [] le = refl
none_left (x ∷ xs) le = absurd (omega arith)

-- what the test for an empty list says
pub is_some_length : (b : Bool) (n : ℕ) → b ≡ eqb n 0 → b ≡ false → 0 < n
is_some_length b zero e f = absurd cc
is_some_length b (suc n) e f = omega arith

pub is_no_length : (b : Bool) (n : ℕ) → b ≡ eqb n 0 → b ≡ true → n ≤ 0
is_no_length b n e f = omega (arith, eqb-true n 0 (sym e ∙ f))

-- ---- parameters that are counted

-- so many were read, and the others follow
pub record Counted (octets : List ℕ) (n : ℕ) (rest : List ℕ) : Type 0 where
  pub front : List Parameter
  pub count : length front ≡ n
  pub room : n + length rest ≤ length octets
  pub so_far : with_front front (parameters_within (length octets - length front) rest) ≡ parameters_at octets

unchanged : (read : Result (List Parameter) PduError) → with_front [] read ≡ read
unchanged (Ok xs) = refl
unchanged (Err e) = refl

pub counted_none : (octets : List ℕ) → Counted octets 0 octets
counted_none octets =
    let all : length octets - 0 ≡ length octets = omega arith in
    record { front = []; count = refl; room = omega arith; so_far = rw all (unchanged (parameters_at octets)) }

pub counted_more : (octets rest : List ℕ) (n : ℕ) (p : Parameter) (after : List ℕ) → 0 < length rest → parameter_at rest ≡ Ok (p, after) → Counted octets n rest → Counted octets (n + 1) after
counted_more octets rest n p after some h c =
    let shorter = parameter-shorter rest p after some h in
    let len : length (c.front ++ p ∷ []) ≡ length c.front + 1 = length-append c.front (p ∷ []) in
    let room : length c.front + length rest ≤ length octets = omega (arith, c.count, c.room) in
    let on = goes_on c.front (length octets) rest p after (parameters_at octets) some room h c.so_far in
    record { front = c.front ++ p ∷ []; count = omega (arith, len, c.count); room = omega (arith, c.room, shorter); so_far = rw len on }

pub counted_ends : (octets rest : List ℕ) (n : ℕ) (e : PduError) → 0 < length rest → parameter_at rest ≡ Err e → Counted octets n rest → parameter_count octets ≡ Err e
counted_ends octets rest n e some h c =
    let room : length c.front + length rest ≤ length octets = omega (arith, c.count, c.room) in
    rw (ends e c.front (length octets) rest (parameters_at octets) some room h c.so_far) refl

pub counted_done : (octets rest : List ℕ) (n : ℕ) → length rest ≤ 0 → Counted octets n rest → parameter_count octets ≡ Ok n
counted_done octets rest n none c =
    rw (is_done c.front _ rest (parameters_at octets) none c.so_far) (ap (λ (k : ℕ). done k) c.count)

err_is : (read : Result (List Parameter) PduError) (e : PduError) → (read >>= λ xs. Ok (length xs)) ≡ Err e → read ≡ Err e
err_is (Ok xs) e h = absurd cc
err_is (Err d) e h = cc

-- what fails to be counted isn't read
pub uncounted : (octets : List ℕ) (e : PduError) → parameter_count octets ≡ Err e → parameters_at octets ≡ Err e
uncounted octets e h = err_is (parameters_at octets) e h
