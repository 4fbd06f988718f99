-- Which numbers came back into a book: those that are with it.
use Rattle.std.proofs.Common.{◌≡◌, ℕ, zero, suc, ◌+◌, List, [], ◌∷◌, ◌++◌, length, set, Some, refl, ap, arith}
use Rattle.std.specs.Prelude.{slice_get}
use Rattle.std.proofs.lemmas.Bool.Decides.{nat_tests}
use Rattle.sms_core.specs.Numbers.{times, once_below, AreDrawn}
use Rattle.sms_core.proofs.Numbers.{times_append}
use Rattle.sms_book.specs.declared.rule.Portion.{Portion}
use Rattle.sms_book.specs.declared.rule.Entry.{Entry}
use Rattle.sms_book.specs.Rule.{away, at_home, AllAway}
use Rattle.sms_book.proofs.Totals.{one_if, one_if_most, count_here, count_at_most}

-- 1 where the number is with the book
abbrev pub here_at : List Entry → ℕ → ℕ
here_at [] k = 0
here_at (e ∷ es) zero = one_if e.here
here_at (e ∷ es) (suc k) = here_at es k

-- the numbers that are with the book, each once
abbrev pub AreBack : List Entry → List ℕ → Type 0
AreBack es numbers = (j : ℕ) → here_at es j ≡ times j numbers

here_home : (es : List Entry) (k : ℕ) (a : List Portion) (j : ℕ) → slice_get es k ≡ Some (away a) → here_at (set es k (at_home a)) j ≡ here_at es j + times j (k ∷ [])
here_home [] k a j e = absurd (cc)
here_home (x ∷ es) zero a zero e =
    let same : x ≡ away a = cc in
    let none : one_if x.here ≡ 0 = ap (λ (y : Entry). one_if y.here) same in
    omega arith
here_home (x ∷ es) zero a (suc j) e = let none : times (suc j) (0 ∷ []) ≡ 0 = grind (arith, nat_tests) in omega arith
here_home (x ∷ es) (suc k) a zero e = let none : times 0 (suc k ∷ []) ≡ 0 = grind (arith, nat_tests) in omega arith
here_home (x ∷ es) (suc k) a (suc j) e = let same : times (suc j) (suc k ∷ []) ≡ times j (k ∷ []) = grind (arith, nat_tests) in let rest = here_home es k a j e in omega arith

pub back_open : (es : List Entry) → AllAway es → AreBack es []
back_open [] all j = refl
back_open (e ∷ es) all zero = ap one_if all.0
back_open (e ∷ es) all (suc j) = back_open es all.1 j

pub back_more : (es : List Entry) (numbers : List ℕ) (k : ℕ) (a : List Portion) → slice_get es k ≡ Some (away a) → AreBack es numbers → AreBack (set es k (at_home a)) (numbers ++ k ∷ [])
back_more es numbers k a e was j = let h = here_home es k a j e in let t = times_append j numbers (k ∷ []) in let w = was j in omega arith

all_back : (es : List Entry) → count_here es ≡ length es → (j : ℕ) → here_at es j ≡ once_below j (length es)
all_back [] all j = grind (arith, nat_tests)
all_back (e ∷ es) all zero = let most = count_at_most es in let one : once_below 0 (length (e ∷ es)) ≡ 1 = grind (arith, nat_tests) in let here = one_if_most e.here in omega arith
all_back (e ∷ es) all (suc j) =
    let rest = all_back es (let most = count_at_most es in let here = one_if_most e.here in omega arith) j in
    let same : once_below (suc j) (suc (length es)) ≡ once_below j (length es) = grind (arith, nat_tests) in
    omega arith

-- where each number is with the book and the till's is 0, the others are those from 1 on
pub back_all : (es : List Entry) (workers : ℕ) (numbers : List ℕ) → length es ≡ workers + 1 → count_here es ≡ length es → AreBack es (0 ∷ numbers) → AreDrawn 1 (workers + 1) numbers
back_all es workers numbers long all back n =
    let b = back n in
    let a = all_back es all n in
    let top : once_below n (length es) ≡ once_below n (workers + 1) = ap (once_below n) long in
    let till : once_below n 1 ≡ times n (0 ∷ []) = grind (arith, nat_tests) in
    omega arith
