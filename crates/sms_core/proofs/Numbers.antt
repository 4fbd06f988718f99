-- Lists of drawn numbers.
use Rattle.std.proofs.Common.{◌≡◌, ◌≢◌, ℕ, zero, suc, ◌+◌, ◌<◌, ◌≤◌, ◌==◌, true, false, List, [], ◌∷◌, ◌++◌, length, refl, sym, arith, ⊎_elim, eq-eqb}
use mathlib.Core.Logic.{dite}
use native.Mathlib.Decide.{ℕ_discrete}
use Rattle.std.proofs.lemmas.Bool.{lt-ltb, le-ltb}
use Rattle.std.proofs.lemmas.Bool.Decides.{nat_tests, eqb_tells}
use Rattle.sms_core.specs.Numbers.{times, AreDrawn, AllBelow, AllAbove, IsRising, once_below}

pub times_append : (n : ℕ) (xs ys : List ℕ) → times n (xs ++ ys) ≡ times n xs + times n ys
times_append n [] ys = omega arith
times_append n (x ∷ xs) ys = omega (arith, times_append n xs ys)

pub times_next : (n next : ℕ) → times n (next ∷ []) + once_below n next ≡ once_below n (next + 1)
times_next n next = ⊎_elim
    (λ (e : ((next == n) ≡ true) × (next ≡ n)). rw (e.0, le-ltb n next (omega arith), lt-ltb n (next + 1) (omega arith)) refl)
    (λ (e : ((next == n) ≡ false) × (next ≢ n)). rw e.0 (let o = once_same n next (λ h. e.1 (sym h)) in omega arith))
    (eqb_tells next n)
  where
    once_same : (x n : ℕ) → x ≢ n → once_below x n ≡ once_below x (n + 1)
    once_same x n ne = grind (arith, nat_tests)

-- after a draw of n
pub times_push : (x n : ℕ) (xs : List ℕ) → times x (xs ++ n ∷ []) + once_below x n ≡ times x xs + once_below x (n + 1)
times_push x n xs = let a = times_append x xs (n ∷ []) in let b = times_next x n in omega arith

pub below_later : (top later : ℕ) (xs : List ℕ) → top ≤ later → AllBelow top xs → AllBelow later xs
below_later top later [] le h = tt
below_later top later (x ∷ xs) le h = (let a = h.0 in omega arith, below_later top later xs le h.1)

pub below_append : (top : ℕ) (xs ys : List ℕ) → AllBelow top xs → AllBelow top ys → AllBelow top (xs ++ ys)
below_append top [] ys a b = b
below_append top (x ∷ xs) ys a b = (a.0, below_append top xs ys a.1 b)

pub above_push : (low n : ℕ) (xs : List ℕ) → low < n → AllAbove low xs → AllAbove low (xs ++ n ∷ [])
above_push low n [] lt h = (lt, tt)
above_push low n (x ∷ xs) lt h = (h.0, above_push low n xs lt h.1)

pub rising_push : (xs : List ℕ) (n top : ℕ) → top ≤ n → AllBelow top xs → IsRising xs → IsRising (xs ++ n ∷ [])
rising_push [] n top le b r = (tt, tt)
rising_push (x ∷ xs) n top le b r = (above_push x n xs (let a = b.0 in omega arith) r.0, rising_push xs n top le b.1 r.1)

-- how many of the list are below the top
count_below : ℕ → List ℕ → ℕ
count_below top [] = 0
count_below top (x ∷ xs) = once_below x top + count_below top xs

-- how many numbers are below both
below_both : ℕ → ℕ → ℕ
below_both zero top = 0
below_both (suc t) top = once_below t top + below_both t top

once_at : (x top : ℕ) → once_below x (suc top) ≡ times top (x ∷ []) + once_below x top
once_at x top = grind (arith, nat_tests)

count_next : (top : ℕ) (xs : List ℕ) → count_below (suc top) xs ≡ times top xs + count_below top xs
unfolding count_below
count_next top [] = refl
count_next top (x ∷ xs) = let here = once_at x top in let rest = count_next top xs in omega arith

count_none : (xs : List ℕ) → count_below 0 xs ≡ 0
unfolding count_below
count_none [] = refl
count_none (x ∷ xs) = let z : once_below x 0 ≡ 0 = grind (arith, nat_tests) in let rest = count_none xs in omega arith

count_drawn : (first next : ℕ) (xs : List ℕ) → AreDrawn first next xs → (t : ℕ) → count_below t xs + below_both t first ≡ below_both t next
unfolding below_both
count_drawn first next xs d zero = let z = count_none xs in omega arith
count_drawn first next xs d (suc t) = let here = d t in let c = count_next t xs in let rest = count_drawn first next xs d t in omega arith

all_below : (t top : ℕ) → t ≤ top → below_both t top ≡ t
unfolding below_both
all_below zero top le = refl
all_below (suc t) top le = let one : once_below t top ≡ 1 = rw (lt-ltb t top (omega arith)) refl in let rest = all_below t top (omega arith) in omega arith

some_below : (t top : ℕ) → top ≤ t → below_both t top ≡ top
unfolding below_both
some_below zero top le = omega arith
some_below (suc t) top le = dite (ℕ_discrete top (suc t))
    (λ e. let all = all_below (suc t) top (omega arith) in omega arith)
    (λ ne. let none : once_below t top ≡ 0 = rw (le-ltb t top (omega arith)) refl in let rest = some_below t top (omega arith) in omega arith)

count_all : (next : ℕ) (xs : List ℕ) → ((n : ℕ) → times n xs ≤ once_below n next) → count_below next xs ≡ length xs
unfolding count_below
count_all next [] le = refl
count_all next (x ∷ xs) le =
    let most : once_below x next ≤ 1 = grind (arith, nat_tests) in
    let here : 1 ≤ times x (x ∷ xs) = rw (eq-eqb x x refl) (omega arith) in
    let one = le x in
    let rest = count_all next xs (λ n. let a = le n in omega arith) in
    omega arith

-- numbers that were drawn are as many as the next one is above the first
pub length-drawn : (first next : ℕ) (xs : List ℕ) → first ≤ next → AreDrawn first next xs → length xs + first ≡ next
length-drawn first next xs le d =
    let all = count_all next xs (λ n. let a = d n in omega arith) in
    let c = count_drawn first next xs d next in
    let low = some_below next first le in
    let high = all_below next next (omega arith) in
    omega arith
