-- The top-ups, each done.
use Rattle.std.proofs.Common.{◌≡◌, ℕ, ◌+◌, ◌<◌, ◌≤◌, List, [], ◌∷◌, ◌++◌, length, set, get_or, refl, sym, ap, ◌∙◌, subst, arith, append_assoc, length-append}
use Rattle.std.specs.Prelude.{replicate}
use Rattle.std.specs.List.{AllByRecursion}
use Rattle.sms_core.specs.Limits.{most_topped}
use Rattle.sms_journal.specs.Schedules.{top_ups}
use Rattle.sms_journal.proofs.Chains.{AllDone}
use Rattle.sms_journal.proofs.SlotMoves.{idle, top_up_done}

nothing_at : (before rest : List ℕ) → get_or (before ++ 0 ∷ rest) (length before) 0 ≡ 0
nothing_at [] rest = refl
nothing_at (x ∷ xs) rest = nothing_at xs rest

set_at : (before rest : List ℕ) (n : ℕ) → set (before ++ 0 ∷ rest) (length before) n ≡ before ++ n ∷ rest
set_at [] rest n = refl
set_at (x ∷ xs) rest n = ap (λ (l : List ℕ). x ∷ l) (set_at xs rest n)

-- the accounts before these were topped up
pub topped_up : (most : ℕ) (before credits : List ℕ) (account : ℕ) → account ≡ length before → AllByRecursion (λ n. n ≤ most_topped) credits
    → AllDone (idle most (before ++ replicate (length credits) 0) [] 1) (top_ups account credits) (idle most (before ++ credits) [] 1)
topped_up most before [] account at few = refl
topped_up most before (n ∷ ns) account at few =
    let zeros : List ℕ = replicate (length ns) 0 in
    let all : List ℕ = before ++ 0 ∷ zeros in
    let inside : account < length all = rw (length-append before (0 ∷ zeros)) (omega arith) in
    let none : get_or all account 0 ≡ 0 = rw at (nothing_at before zeros) in
    let step = top_up_done most all account n inside (let f = few.0 in omega arith) in
    let sum : get_or all account 0 + n ≡ n = omega arith in
    let now : set all account (get_or all account 0 + n) ≡ (before ++ n ∷ []) ++ zeros =
    rw (sum, at) (set_at before zeros n ∙ sym (append_assoc before (n ∷ []) zeros)) in
    let long : account + 1 ≡ length (before ++ n ∷ []) = rw (length-append before (n ∷ [])) (omega arith) in
    let rest = topped_up most (before ++ n ∷ []) ns (account + 1) long few.1 in
    let from : AllDone (idle most (set all account (get_or all account 0 + n)) [] 1) (top_ups (account + 1) ns) (idle most (before ++ n ∷ ns) [] 1) =
    rw now (subst (λ (l : List ℕ). AllDone (idle most ((before ++ n ∷ []) ++ zeros) [] 1) (top_ups (account + 1) ns) (idle most l [] 1)) (append_assoc before (n ∷ []) ns) rest) in
    (idle most (set all account (get_or all account 0 + n)) [] 1, step, from)
