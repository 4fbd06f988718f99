-- The events of several parts, each done: no two have one name, and each account has the credits that a part asks for when its turn comes.
use Rattle.std.proofs.Common.{◌≡◌, ℕ, suc, ◌+◌, ◌≤◌, List, [], ◌∷◌, ◌++◌, map, length, get_or, None, refl, subst, arith, eq-eqb, ne_eqb, append_assoc, sum_by}
use Rattle.std.specs.List.{AllByRecursion}
use Rattle.std.proofs.lemmas.List.{append-nil}
use Rattle.std.proofs.lemmas.List.Sums.{sum_by-cons, sum_by_push}
use mathlib.Core.Logic.{dite}
use native.Mathlib.Decide.{ℕ_discrete}
use Rattle.sms_core.specs.declared.mark.Mark.TheVariants.{Empty}
use Rattle.sms_core.specs.declared.request.Request.{Request}
use Rattle.sms_core.specs.Ledger.{is_named}
use Rattle.sms_core.specs.Limits.{top_number}
use Rattle.sms_core.specs.Rows.{over, reserved_of, charged_of}
use Rattle.sms_core.specs.State.{entry_of, find_request, row_at}
use Rattle.sms_journal.specs.Schedules.{NamedPart, part_events, parts_events, request_for}
use Rattle.sms_journal.specs.ScheduleLaws.{CanBeSent}
use Rattle.sms_journal.proofs.Chains.{AllDone, done_append}
use Rattle.sms_journal.proofs.SlotMoves.{standing}
use Rattle.sms_journal.proofs.PartRuns.{part_done}

-- what an account has used after these requests
abbrev pub used_by : ℕ → List Request → ℕ
used_by account rs = over reserved_of account (map entry_of rs) + over charged_of account (map entry_of rs)

-- each part finds its credits free
abbrev pub FindFree : List ℕ → List Request → List NamedPart → Type 0
FindFree credits rs [] = Unit {0}
FindFree credits rs (n ∷ ns) = (n.part.cost + used_by n.part.account rs ≤ get_or credits n.part.account 0) × FindFree credits (rs ++ request_for n ∷ []) ns

-- 1 for a part of this name, else 0
abbrev pub has_name : ℕ → NamedPart → ℕ
has_name id n = is_named id (request_for n)

-- no two have one name
abbrev pub AreApart : List Request → List NamedPart → Type 0
AreApart rs ns = (id : ℕ) → sum_by (is_named id) rs + sum_by (has_name id) ns ≤ 1

abbrev pub length_in : NamedPart → ℕ
length_in n = length n.part.attempts

-- what is in no request of the list is not found
pub not_found : (id : ℕ) (rs : List Request) → sum_by (is_named id) rs ≡ 0 → find_request id rs ≡ None
not_found id [] none = refl
not_found id (r ∷ rs) none = dite (ℕ_discrete r.id id)
    (λ is.
    let one : is_named id r ≡ 1 = rw (eq-eqb r.id id is) refl in
    absurd (omega (arith, sum_by-cons (is_named id) r rs)))
    (λ ne.
    let zero : is_named id r ≡ 0 = rw (ne_eqb r.id id ne) refl in
    rw (ne_eqb r.id id ne) (not_found id rs (omega (arith, sum_by-cons (is_named id) r rs))))

own_name : (n : NamedPart) → has_name n.name n ≡ 1
own_name n = rw (eq-eqb n.name n.name refl) refl

pub several_done : (most : ℕ) (credits : List ℕ) (rs : List Request) (ns : List NamedPart) (next after : ℕ) → after ≡ next + sum_by length_in ns → 1 ≤ most
    → AllByRecursion (λ n. CanBeSent most credits n.part) ns → AreApart rs ns → FindFree credits rs ns → after ≤ suc top_number
    → AllDone (standing most credits rs next Empty) (parts_events most next ns) (standing most credits (rs ++ map request_for ns) after Empty)
several_done most credits rs [] next after after_is once can apart free few =
    let same : after ≡ next = omega arith in
    rw (same, append-nil {A = Request} rs) refl
several_done most credits rs (n ∷ ns) next after after_is once can apart free few =
    let more : sum_by length_in (n ∷ ns) ≡ length_in n + sum_by length_in ns = sum_by-cons length_in n ns in
    let mid : ℕ = next + length n.part.attempts in
    let own = own_name n in
    let here = apart n.name in
    let whole : sum_by (has_name n.name) (n ∷ ns) ≡ has_name n.name n + sum_by (has_name n.name) ns = sum_by-cons (has_name n.name) n ns in
    let new : find_request n.name rs ≡ None = not_found n.name rs (omega arith) in
    let enough : n.part.cost ≤ (row_at (standing most credits rs next Empty) n.part.account).free = (let f = free.0 in omega arith) in
    let numbers : mid ≤ suc top_number = omega arith in
    let first = part_done most credits rs n next mid refl new can.0.known can.0.some can.0.few enough once can.0.allowed numbers in
    let later_apart : AreApart (rs ++ request_for n ∷ []) ns =
    λ id. (let a = apart id in let b = sum_by_push (is_named id) rs (request_for n) in let c = sum_by-cons (has_name id) n ns in omega arith) in
    let rest = several_done most credits (rs ++ request_for n ∷ []) ns mid after (omega arith) once can.1 later_apart free.1 few in
    let goal : AllDone (standing most credits (rs ++ request_for n ∷ []) mid Empty) (parts_events most mid ns) (standing most credits (rs ++ request_for n ∷ map request_for ns) after Empty)
    = subst (λ (l : List Request). AllDone (standing most credits (rs ++ request_for n ∷ []) mid Empty) (parts_events most mid ns) (standing most credits l after Empty)) (append_assoc rs (request_for n ∷ []) (map request_for ns)) rest in
    done_append (standing most credits rs next Empty) (standing most credits (rs ++ request_for n ∷ []) mid Empty) (standing most credits (rs ++ request_for n ∷ map request_for ns) after Empty)
    (part_events most next n) (parts_events most mid ns) first goal
