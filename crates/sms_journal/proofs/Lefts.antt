-- Which messages are left behind some records of a report.
use Rattle.std.proofs.Common.{◌≡◌, ◌≢◌, ◌∙◌, ◌≤◌, ◌<◌, sym, refl, ap, ℕ, zero, suc, ◌+◌, Bool, true, false, List, [], ◌∷◌, ◌++◌, length, map, drop, get_or, subst, Some, None, arith}
use Rattle.std.specs.Prelude.{Option, option_map, slice_get, slice_set, ◌==◌, ◌&&◌, ◌||◌, not}
use Rattle.std.proofs.lemmas.Bool.{eqb-false, eqb-true, ne_eqb}
use Rattle.sms_files.specs.Fields.{Record}
use Rattle.sms_files.proofs.Lists.{drop_step, drop_whole}
use Rattle.sms_journal.specs.declared.rest.report_line.Line.{Line}
use Rattle.sms_journal.specs.RecordLines.{is_left}
use Rattle.sms_journal.specs.Rest.{is_unsent, stays, stays_by}

with_true : (b : Bool) → (b && true) ≡ b
with_true true = refl
with_true false = refl

or_true : (b : Bool) → (b || true) ≡ true
or_true true = refl
or_true false = refl

and_assoc : (a b c : Bool) → ((a && b) && c) ≡ (a && (b && c))
and_assoc true b c = refl
and_assoc false b c = refl

-- one more that is left
pub one_more_left : (bs : List Bool) (n : ℕ) (pushed : List Bool) → length bs ≡ n → ((i : ℕ) → i < n → slice_get bs i ≡ Some true) → pushed ≡ bs ++ true ∷ []
    → (i : ℕ) → i < n + 1 → slice_get pushed i ≡ Some true
one_more_left [] n pushed long each grows zero low = rw grows refl
one_more_left [] n pushed long each grows (suc i) low = absurd (omega (arith, long, low))
one_more_left (b ∷ bs) n pushed long each grows zero low = rw grows (each 0 (omega (arith, long)))
one_more_left (b ∷ bs) n pushed long each grows (suc i) low =
    rw grows (one_more_left bs (length bs) (bs ++ true ∷ []) refl (λ k below. each (suc k) (omega (arith, long, below))) refl i (omega (arith, long, low)))

-- what stays
pub all_stay : (o : Option Bool) (t : Bool) → t ≡ true → o ≡ option_map (λ b. b && t) o
all_stay None t e = refl
all_stay (Some b) t e = rw e (ap (λ (x : Bool). Some x) (sym (with_true b)))

pub stays_left : (i : ℕ) (line : Line) → is_left line ≡ true → stays_by i (Some line) ≡ true
stays_left i line e = rw e (or_true (not (line.message == i)))

set_same : (bs : List Bool) (k : ℕ) (v : Bool) → k < length bs → slice_get (slice_set bs k v) k ≡ Some v
set_same [] k v h = absurd (omega (arith, h))
set_same (b ∷ bs) zero v h = refl
set_same (b ∷ bs) (suc k) v h = set_same bs k v (omega (arith, h))

set_other : (bs : List Bool) (k i : ℕ) (v : Bool) → k ≢ i → slice_get (slice_set bs k v) i ≡ slice_get bs i
set_other [] k i v h = refl
set_other (b ∷ bs) zero zero v h = absurd (h refl)
set_other (b ∷ bs) zero (suc i) v h = refl
set_other (b ∷ bs) (suc k) zero v h = refl
set_other (b ∷ bs) (suc k) (suc i) v h = set_other bs k i v (λ e. h (ap suc e))

got_some : (bs : List Bool) (k : ℕ) → k < length bs → (b : Bool) × (slice_get bs k ≡ Some b)
got_some [] k h = absurd (omega (arith, h))
got_some (b ∷ bs) zero h = (b, refl)
got_some (b ∷ bs) (suc k) h = got_some bs k (omega (arith, h))

got_none : (bs : List Bool) (k : ℕ) → length bs ≤ k → slice_get bs k ≡ None
got_none [] k h = refl
got_none (b ∷ bs) zero h = absurd (omega (arith, h))
got_none (b ∷ bs) (suc k) h = got_none bs k (omega (arith, h))

other_stays : (i : ℕ) (line : Line) → line.message ≢ i → stays_by i (Some line) ≡ true
other_stays i line other = rw (ne_eqb line.message i other) refl

and_false : (b : Bool) → (b && false) ≡ false
and_false true = refl
and_false false = refl

-- the message of the line is left no more
pub one_passed : (bs : List Bool) (i : ℕ) (line : Line) → is_left line ≡ false → line.message < length bs
    → slice_get (slice_set bs line.message false) i ≡ option_map (λ b. b && stays_by i (Some line)) (slice_get bs i)
one_passed bs i line out low = by (line.message == i) refl
  where
    by : (t : Bool) → (line.message == i) ≡ t → slice_get (slice_set bs line.message false) i ≡ option_map (λ b. b && stays_by i (Some line)) (slice_get bs i)
    by true e =
        let same : line.message ≡ i = eqb-true line.message i e in
        let within : i < length bs = omega (arith, same, low) in
        let it = got_some bs i within in
        let now : slice_get (slice_set bs line.message false) i ≡ Some false = subst (λ (k : ℕ). slice_get (slice_set bs k false) i ≡ Some false) (sym same) (set_same bs i false within) in
        let gone : stays_by i (Some line) ≡ false = rw (e, out) refl in
        now ∙ sym (ap (option_map (λ (b : Bool). b && stays_by i (Some line))) it.1 ∙ ap (λ (t : Bool). Some (it.0 && t)) gone ∙ ap (λ (t : Bool). Some t) (and_false it.0))
    by false e =
        let other = eqb-false line.message i e in
        set_other bs line.message i false other ∙ all_stay (slice_get bs i) (stays_by i (Some line)) (other_stays i line other)

-- there is no such message
pub none_passed : (bs : List Bool) (i : ℕ) (line : Line) → length bs ≤ line.message → slice_get bs i ≡ option_map (λ b. b && stays_by i (Some line)) (slice_get bs i)
none_passed bs i line high = by (line.message == i) refl
  where
    by : (t : Bool) → (line.message == i) ≡ t → slice_get bs i ≡ option_map (λ b. b && stays_by i (Some line)) (slice_get bs i)
    by true e = let same = eqb-true line.message i e in let none = got_none bs i (omega (arith, same, high)) in rw none refl
    by false e = all_stay (slice_get bs i) (stays_by i (Some line)) (other_stays i line (eqb-false line.message i e))

-- ---- by all records

-- the flag of a message, with what the records from a place on say of it, is what all say
pub record HasFlag {A : Type 0} (f : A → Record) (xs : List A) (k i : ℕ) (flag : Option Bool) : Type 0 where
  pub value : Bool
  pub is : flag ≡ Some value
  pub whole : (value && is_unsent i (map f (drop k xs))) ≡ is_unsent i (map f xs)

pub first_flag : {A : Type 0} (f : A → Record) (xs : List A) (i : ℕ) (flag : Option Bool) → flag ≡ Some true → HasFlag f xs 0 i flag
first_flag f xs i flag e = record { value = true; is = e; whole = refl }

pub next_flag : {A : Type 0} (f : A → Record) (xs : List A) (k : ℕ) (x : A) (i : ℕ) (old new : Option Bool) → k < length xs → x ≡ get_or xs k x → HasFlag f xs k i old
    → new ≡ option_map (λ b. b && stays i (f x)) old → HasFlag f xs (k + 1) i new
next_flag {A = A} f xs k x i old new low its h e = record {
  value = h.value && stays i (f x);
  is = e ∙ ap (option_map (λ (b : Bool). b && stays i (f x))) h.is;
  whole = and_assoc h.value (stays i (f x)) (is_unsent i (map f (drop (k + 1) xs)))
      ∙ ap (λ (rs : List A). h.value && is_unsent i (map f rs)) (sym (drop_step xs k x low its)) ∙ h.whole;
}

pub last_flag : {A : Type 0} (f : A → Record) (xs : List A) (k i : ℕ) (flag : Option Bool) → length xs ≤ k → HasFlag f xs k i flag → flag ≡ Some (is_unsent i (map f xs))
last_flag {A = A} f xs k i flag high h =
    h.is ∙ ap (λ (b : Bool). Some b) (sym (with_true h.value) ∙ ap (λ (rs : List A). h.value && is_unsent i (map f rs)) (sym (drop_whole xs k high)) ∙ h.whole)
