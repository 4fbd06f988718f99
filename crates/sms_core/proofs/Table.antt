-- The pairs of a table of slots, counted slot by slot.
use Rattle.std.proofs.Common.{◌≡◌, ◌≢◌, ℕ, suc, zero, ◌+◌, ◌<◌, ◌==◌, true, false, not, nat_lt, is_some, slice_get, List, [], ◌∷◌, length, map, get_or, set, Option, Some, None, if◌then◌else◌, refl, sym, ap, ◌∙◌, inl, inr, arith, eq-eqb, ne_eqb}
use Rattle.std.proofs.Math.Bool.{and-true, and-false, or-true}
use Rattle.std.proofs.lemmas.Bool.{cases_lt}
use Rattle.std.proofs.lemmas.List.{get_or_past}
use mathlib.Core.Logic.{dite}
use native.Mathlib.Decide.{ℕ_discrete}
use Rattle.sms_core.specs.declared.mark.Mark.{Mark}
use Rattle.sms_core.specs.declared.mark.Mark.TheVariants.{Empty}
use Rattle.sms_core.specs.Holds.{weigh, is_slot, holders_of}
use Rattle.sms_core.specs.Marks.{waits_for}
use Rattle.sms_core.specs.declared.slots.Slot.{Slot}
use Rattle.sms_core.specs.declared.slots.Slot.TheVariants.{Free, Held}
use Rattle.sms_core.specs.Slots.{pairs_from, worker_in, mark_in, is_of}
use Rattle.sms_core.specs.State.{find_holder, is_pair, times_held}
use Rattle.sms_core.specs.Steps.{some_waits_for}

-- what a slot with this holder weighs
abbrev pub weight_at : (ℕ × ℕ → ℕ) → ℕ → Option ℕ → ℕ
weight_at f slot None = 0
weight_at f slot (Some worker) = f (worker, slot)

-- a weight that is 0 but at one slot
abbrev pub IsOnly : ℕ → (ℕ × ℕ → ℕ) → Type 0
IsOnly slot f = (worker other : ℕ) → other ≢ slot → f (worker, other) ≡ 0

weigh-pairs_above : (slot : ℕ) (f : ℕ × ℕ → ℕ) → IsOnly slot f → (hs : List (Option ℕ)) (n : ℕ) → slot < n → weigh f (pairs_from n hs) ≡ 0
weigh-pairs_above slot f only [] n lt = refl
weigh-pairs_above slot f only (None ∷ hs) n lt = weigh-pairs_above slot f only hs (suc n) (omega arith)
weigh-pairs_above slot f only (Some worker ∷ hs) n lt =
    let rest = weigh-pairs_above slot f only hs (suc n) (omega arith) in let here = only worker n (λ e. omega arith) in omega arith

pub weigh-pairs_only : (slot : ℕ) (f : ℕ × ℕ → ℕ) → IsOnly slot f → (hs : List (Option ℕ)) (n k : ℕ) → slot ≡ n + k → weigh f (pairs_from n hs) ≡ weight_at f slot (get_or hs k None)
weigh-pairs_only slot f only [] n k e = refl
weigh-pairs_only slot f only (None ∷ hs) n zero e = weigh-pairs_above slot f only hs (suc n) (omega arith)
weigh-pairs_only slot f only (Some worker ∷ hs) n zero e = let is : slot ≡ n = omega arith in rw is
    (omega (arith, weigh-pairs_above slot f only hs (suc n) (omega arith)))
weigh-pairs_only slot f only (None ∷ hs) n (suc k) e = weigh-pairs_only slot f only hs (suc n) k (omega arith)
weigh-pairs_only slot f only (Some worker ∷ hs) n (suc k) e =
    let rest = weigh-pairs_only slot f only hs (suc n) k (omega arith) in let here = only worker n (λ i. omega arith) in omega arith

-- one holder is set
pub weigh-pairs_set : (f : ℕ × ℕ → ℕ) (hs : List (Option ℕ)) (n k slot : ℕ) (h : Option ℕ) → slot ≡ n + k → k < length hs →
    weigh f (pairs_from n (set hs k h)) + weight_at f slot (get_or hs k None) ≡ weigh f (pairs_from n hs) + weight_at f slot h
weigh-pairs_set f [] n k slot h e lt = absurd (omega arith)
weigh-pairs_set f (None ∷ hs) n zero slot None e lt = omega arith
weigh-pairs_set f (None ∷ hs) n zero slot (Some v) e lt = let is : slot ≡ n = omega arith in rw is (omega arith)
weigh-pairs_set f (Some worker ∷ hs) n zero slot None e lt = let is : slot ≡ n = omega arith in rw is (omega arith)
weigh-pairs_set f (Some worker ∷ hs) n zero slot (Some v) e lt = let is : slot ≡ n = omega arith in rw is (omega arith)
weigh-pairs_set f (None ∷ hs) n (suc k) slot h e lt = weigh-pairs_set f hs (suc n) k slot h (omega arith) (omega arith)
weigh-pairs_set f (Some worker ∷ hs) n (suc k) slot h e lt =
    let rest = weigh-pairs_set f hs (suc n) k slot h (omega arith) (omega arith) in omega arith

find-pairs_above : (hs : List (Option ℕ)) (n slot : ℕ) → slot < n → find_holder slot (pairs_from n hs) ≡ None
find-pairs_above [] n slot lt = refl
find-pairs_above (None ∷ hs) n slot lt = find-pairs_above hs (suc n) slot (omega arith)
find-pairs_above (Some worker ∷ hs) n slot lt = rw (ne_eqb n slot (λ e. omega arith)) (find-pairs_above hs (suc n) slot (omega arith))

pub find-pairs : (hs : List (Option ℕ)) (n k slot : ℕ) → slot ≡ n + k → find_holder slot (pairs_from n hs) ≡ get_or hs k None
find-pairs [] n k slot e = refl
find-pairs (None ∷ hs) n zero slot e = find-pairs_above hs (suc n) slot (omega arith)
find-pairs (Some worker ∷ hs) n zero slot e = rw (eq-eqb n slot (omega arith)) refl
find-pairs (None ∷ hs) n (suc k) slot e = find-pairs hs (suc n) k slot (omega arith)
find-pairs (Some worker ∷ hs) n (suc k) slot e = rw (ne_eqb n slot (λ i. omega arith)) (find-pairs hs (suc n) k slot (omega arith))

-- what the table says of one slot

abbrev pub one_if_some : Option ℕ → ℕ
one_if_some None = 0
one_if_some (Some worker) = 1

abbrev pub one_if_same : ℕ → Option ℕ → ℕ
one_if_same worker None = 0
one_if_same worker (Some holder) = if holder == worker then 1 else 0

slot_weight : (slot : ℕ) (h : Option ℕ) → weight_at (is_slot slot) slot h ≡ one_if_some h
slot_weight slot None = refl
slot_weight slot (Some worker) = rw (eq-eqb slot slot refl) refl

pair_weight : (worker slot : ℕ) (h : Option ℕ) → weight_at (is_pair worker slot) slot h ≡ one_if_same worker h
pair_weight worker slot None = refl
pair_weight worker slot (Some holder) = rw (eq-eqb slot slot refl, and-true) refl

IsOnly-is_slot : (slot : ℕ) → IsOnly slot (is_slot slot)
IsOnly-is_slot slot worker other ne = rw (ne_eqb other slot ne) refl

IsOnly-is_pair : (worker slot : ℕ) → IsOnly slot (is_pair worker slot)
IsOnly-is_pair worker slot holder other ne = rw (ne_eqb other slot ne, and-false) refl

pub holders_of-pairs : (slot : ℕ) (hs : List (Option ℕ)) → holders_of slot (pairs_from 0 hs) ≡ one_if_some (get_or hs slot None)
holders_of-pairs slot hs = weigh-pairs_only slot (is_slot slot) (IsOnly-is_slot slot) hs 0 slot (omega arith) ∙ slot_weight slot (get_or hs slot None)

pub times_held-pairs : (worker slot : ℕ) (hs : List (Option ℕ)) → times_held worker slot (pairs_from 0 hs) ≡ one_if_same worker (get_or hs slot None)
times_held-pairs worker slot hs = weigh-pairs_only slot (is_pair worker slot) (IsOnly-is_pair worker slot) hs 0 slot (omega arith) ∙ pair_weight worker slot (get_or hs slot None)

free_step : (h : Option ℕ) → one_if_some h ≡ 0 → h ≡ None
free_step None e = refl
free_step (Some worker) e = absurd (omega arith)

pub free_holder : (slot : ℕ) (hs : List (Option ℕ)) → holders_of slot (pairs_from 0 hs) ≡ 0 → get_or hs slot None ≡ None
free_holder slot hs e = free_step (get_or hs slot None) (sym (holders_of-pairs slot hs) ∙ e)

own_step : (worker : ℕ) (h : Option ℕ) → one_if_same worker h ≢ 0 → h ≡ Some worker
own_step worker None ne = absurd (ne refl)
own_step worker (Some holder) ne = dite (ℕ_discrete holder worker) (λ is. ap Some is) (λ other. absurd (ne (rw (ne_eqb holder worker other) refl)))

pub own_holder : (worker slot : ℕ) (hs : List (Option ℕ)) → times_held worker slot (pairs_from 0 hs) ≢ 0 → get_or hs slot None ≡ Some worker
own_holder worker slot hs ne = own_step worker (get_or hs slot None) (λ e. ne (times_held-pairs worker slot hs ∙ e))

-- a slot that somebody has lies in the table
pub held_inside : (slot : ℕ) (hs : List (Option ℕ)) → get_or hs slot None ≢ None → slot < length hs
held_inside slot hs ne = elim (cases_lt slot (length hs)) [ inl lt ↦ lt | inr le ↦ absurd (ne (get_or_past hs slot None le)) ]

pub held_holder : (slot : ℕ) (hs : List (Option ℕ)) → holders_of slot (pairs_from 0 hs) ≢ 0 → get_or hs slot None ≢ None
held_holder slot hs ne e = ne (holders_of-pairs slot hs ∙ ap one_if_some e)

pub claims-pairs : (worker slot : ℕ) (hs : List (Option ℕ)) → slot < length hs → get_or hs slot None ≡ None →
    (f : ℕ × ℕ → ℕ) → weigh f (pairs_from 0 (set hs slot (Some worker))) ≡ weigh f (pairs_from 0 hs) + f (worker, slot)
claims-pairs worker slot hs lt free f =
    let s = weigh-pairs_set f hs 0 slot slot (Some worker) (omega arith) lt in let none : weight_at f slot (get_or hs slot None) ≡ 0 = ap (weight_at f slot) free in omega arith

pub releases-pairs : (worker slot : ℕ) (hs : List (Option ℕ)) → slot < length hs → get_or hs slot None ≡ Some worker →
    (f : ℕ × ℕ → ℕ) → weigh f (pairs_from 0 hs) ≡ weigh f (pairs_from 0 (set hs slot None)) + f (worker, slot)
releases-pairs worker slot hs lt own f =
    let s = weigh-pairs_set f hs 0 slot slot None (omega arith) lt in let one : weight_at f slot (get_or hs slot None) ≡ f (worker, slot) = ap (weight_at f slot) own in omega arith

pub is_held-pairs : (slot : ℕ) (hs : List (Option ℕ)) → nat_lt 0 (holders_of slot (pairs_from 0 hs)) ≡ is_some (get_or hs slot None)
is_held-pairs slot hs = ap (nat_lt 0) (holders_of-pairs slot hs) ∙ step (get_or hs slot None)
  where
    step : (h : Option ℕ) → nat_lt 0 (one_if_some h) ≡ is_some h
    step None = refl
    step (Some w) = refl

-- the slots themselves

pub worker_at : (ss : List Slot) (k : ℕ) → get_or (map worker_in ss) k None ≡ worker_in (get_or ss k Free)
worker_at [] k = refl
worker_at (s ∷ ss) zero = refl
worker_at (s ∷ ss) (suc k) = worker_at ss k

pub mark_at : (ss : List Slot) (k : ℕ) → get_or (map mark_in ss) k Empty ≡ mark_in (get_or ss k Free)
mark_at [] k = refl
mark_at (s ∷ ss) zero = refl
mark_at (s ∷ ss) (suc k) = mark_at ss k

-- a slot that nobody has is empty
pub idle : (s : Slot) → worker_in s ≡ None → mark_in s ≡ Empty
idle Free e = refl
idle (Held worker mark) e = absurd (cc)

pub find-slots : (ss : List Slot) (slot : ℕ) → worker_in (get_or ss slot Free) ≡ find_holder slot (pairs_from 0 (map worker_in ss))
find-slots ss slot = sym (find-pairs (map worker_in ss) 0 slot slot (omega arith) ∙ worker_at ss slot)

pub is_held-slots : (ss : List Slot) (slot : ℕ) → is_some (worker_in (get_or ss slot Free)) ≡ nat_lt 0 (holders_of slot (pairs_from 0 (map worker_in ss)))
is_held-slots ss slot = sym (is_held-pairs slot (map worker_in ss) ∙ ap is_some (worker_at ss slot))

own_test : (worker : ℕ) (s : Slot) → not (one_if_same worker (worker_in s) == 0) ≡ is_of worker s
own_test worker Free = refl
own_test worker (Held holder mark) = dite (ℕ_discrete holder worker)
    (λ is. rw (eq-eqb holder worker is) refl)
    (λ ne. rw (ne_eqb holder worker ne) refl)

pub is_of-slots : (ss : List Slot) (worker slot : ℕ) → not (times_held worker slot (pairs_from 0 (map worker_in ss)) == 0) ≡ is_of worker (get_or ss slot Free)
is_of-slots ss worker slot = ap (λ (n : ℕ). not (n == 0)) (times_held-pairs worker slot (map worker_in ss) ∙ ap (one_if_same worker) (worker_at ss slot)) ∙ own_test worker (get_or ss slot Free)

-- looking for the slot that waits for a number, up to a slot
pub none_waits_below : (number : ℕ) (ms : List Mark) → ((k : ℕ) → k < length ms → waits_for number (get_or ms k Empty) ≡ false) → some_waits_for number ms ≡ false
none_waits_below number [] none = refl
none_waits_below number (m ∷ ms) none = rw (none 0 (omega arith)) (none_waits_below number ms (λ k lt. none (suc k) (omega arith)))

pub some_waits_at : (number : ℕ) (ms : List Mark) (k : ℕ) → waits_for number (get_or ms k Empty) ≡ true → some_waits_for number ms ≡ true
some_waits_at number [] k is = absurd (cc)
some_waits_at number (m ∷ ms) zero is = rw is refl
some_waits_at number (m ∷ ms) (suc k) is = rw (some_waits_at number ms k is, or-true) refl

pub slice_get-at : (ms : List Mark) (k : ℕ) (m : Mark) → get_or ms k Empty ≡ m → m ≢ Empty → slice_get ms k ≡ Some m
slice_get-at [] k m is ne = absurd (ne (sym is))
slice_get-at (x ∷ ms) zero m is ne = ap Some is
slice_get-at (x ∷ ms) (suc k) m is ne = slice_get-at ms k m is ne
