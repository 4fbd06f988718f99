-- Sums over the requests, and the rows that keep them.
use Rattle.std.proofs.Common.{◌≡◌, ◌≢◌, ℕ, suc, zero, ◌+◌, ◌-◌, ◌*◌, ◌^◌, ◌<◌, ◌≤◌, ◌==◌, nat_lt, List, [], ◌∷◌, ◌++◌, map, length, get_or, set, slice_get, replicate, Some, None, if◌then◌else◌, sum_by, refl, sym, ap, ◌∙◌, arith, eq-eqb, ne_eqb, length-set}
use Rattle.std.specs.Option.{option_map}
use Rattle.std.proofs.lemmas.Bool.Decides.{nat_tests}
use Rattle.std.proofs.lemmas.List.{get_or-set_same, get_or-set_other, length_push}
use Rattle.std.proofs.lemmas.List.Sums.{sum_by-cons, sum_by-set, sum_by_push, get_or-le-sum_by}
use Rattle.std.proofs.Math.Seq.{map-set_same}
use mathlib.Core.Logic.{dite}
use native.Mathlib.Decide.{ℕ_discrete}
use Rattle.sms_core.specs.declared.request.Phase.{Phase}
use Rattle.sms_core.specs.declared.request.Phase.TheVariants.{Ready, Open, Charged, Refused, Unanswered, Unsent}
use Rattle.sms_core.specs.declared.request.Request.{Request}
use Rattle.sms_core.specs.declared.request.RequestState.{RequestState}
use Rattle.sms_core.specs.Limits.{largest_cost, most_topped}
use Rattle.sms_core.specs.declared.row.Row.{Row}
use Rattle.sms_core.specs.Requests.{place_of}
use Rattle.sms_core.specs.Rows.{no_row, Entry, part, over, reserved_of, charged_of, returned_of, row_of}
use Rattle.sms_core.specs.RowMoves.{row_after}
use Rattle.sms_core.specs.State.{entry_of, changed, find_request}
use Rattle.sms_core.specs.Ledger.{Records, IsRowOf, AreRows, is_named, is_open_named, one_if_open, one_if_ready, excess, cost_of, AreRequests, IsKept, IsLive, became}
use Rattle.sms_core.specs.Steps.{reserved_request}
use Rattle.sms_core.proofs.AccountSums.{over-map}

-- what a request adds to an account
abbrev pub share : (Phase → ℕ → ℕ) → ℕ → Request → ℕ
share f account r = part f account (entry_of r)

pub over-sum_by : (f : Phase → ℕ → ℕ) (account : ℕ) (rs : List Request) → over f account (map entry_of rs) ≡ sum_by (share f account) rs
over-sum_by f account rs = over-map f account entry_of rs

pub over-set : (f : Phase → ℕ → ℕ) (account : ℕ) (rs : List Request) (p : ℕ) (r d : Request) → p < length rs →
    over f account (map entry_of (set rs p r)) + share f account (get_or rs p d) ≡ over f account (map entry_of rs) + share f account r
over-set f account rs p r d lt = rw (over-sum_by f account (set rs p r), over-sum_by f account rs) (sum_by-set (share f account) rs p r d lt)

pub over-push : (f : Phase → ℕ → ℕ) (account : ℕ) (rs : List Request) (r : Request) →
    over f account (map entry_of (rs ++ r ∷ [])) ≡ over f account (map entry_of rs) + share f account r
over-push f account rs r = rw (over-sum_by f account (rs ++ r ∷ []), over-sum_by f account rs) (sum_by_push (share f account) rs r)

-- where names are distinct, a change by name is a write at the place
changed_none : (id : ℕ) (f : RequestState → RequestState) (rs : List Request) → sum_by (is_named id) rs ≡ 0 → changed id f rs ≡ rs
changed_none id f [] none = refl
changed_none id f (r ∷ rs) none = let s = sum_by-cons (is_named id) r rs in dite (ℕ_discrete r.id id)
    (λ is. let one : is_named id r ≡ 1 = rw (eq-eqb r.id id is) in absurd (omega arith))
    (λ ne. rw (ne_eqb r.id id ne) (ap (λ (xs : List Request). r ∷ xs) (changed_none id f rs (omega arith))))

pub changed-set : (id : ℕ) (f : RequestState → RequestState) (rs : List Request) (p : ℕ) (d : Request) → sum_by (is_named id) rs ≤ 1 → p < length rs → (get_or rs p d).id ≡ id →
    changed id f rs ≡ set rs p (record { id = id; state = f (get_or rs p d).state })
changed-set id f [] p d one lt is = absurd (omega arith)
changed-set id f (r ∷ rs) zero d one lt is =
    let s = sum_by-cons (is_named id) r rs in let here : is_named id r ≡ 1 = rw (eq-eqb r.id id is) in
    rw (eq-eqb r.id id is) (rw is (ap (λ (xs : List Request). record { id = id; state = f r.state } ∷ xs) (changed_none id f rs (omega arith))))
changed-set id f (r ∷ rs) (suc p) d one lt is =
    let s = sum_by-cons (is_named id) r rs in
    let later : is_named id (get_or rs p d) ≤ sum_by (is_named id) rs = get_or-le-sum_by (is_named id) rs p d (omega arith) in
    let here : is_named id (get_or rs p d) ≡ 1 = rw (eq-eqb (get_or rs p d).id id is) in
    dite (ℕ_discrete r.id id)
    (λ same. let too : is_named id r ≡ 1 = rw (eq-eqb r.id id same) in absurd (omega arith))
    (λ ne. rw (ne_eqb r.id id ne) (ap (λ (xs : List Request). r ∷ xs) (changed-set id f rs p d (omega arith) (omega arith) is)))

-- a write of a request moves the sums by what it adds

reserved_live : (was : Phase) (cost : ℕ) → IsLive was → (reserved_of was cost ≡ cost) × (charged_of was cost ≡ 0) × (returned_of was cost ≡ 0)
reserved_live Ready cost live = (refl, refl, refl)
reserved_live Open cost live = (refl, refl, refl)
reserved_live Charged cost live = absurd live
reserved_live Refused cost live = absurd live
reserved_live Unanswered cost live = absurd live
reserved_live Unsent cost live = absurd live

abbrev MovesTo : (Phase → ℕ → ℕ) → Phase → Phase → ℕ → ℕ → List Entry → List Entry → Type 0
MovesTo f was phase cost account old new = over f account new + f was cost ≡ over f account old + f phase cost

row_step : (phase was : Phase) (cost account : ℕ) (r : Row) (old new : List Entry) → (reserved_of was cost ≡ cost) × (charged_of was cost ≡ 0) × (returned_of was cost ≡ 0) →
    IsRowOf r account old → MovesTo reserved_of was phase cost account old new → MovesTo charged_of was phase cost account old new → MovesTo returned_of was phase cost account old new →
    IsRowOf (row_after phase cost r) account new
row_step Ready was cost account r old new live is a b c = record { balance = omega arith; limit = omega arith; reserved = omega arith; charged = omega arith; returned = omega arith }
row_step Open was cost account r old new live is a b c = record { balance = omega arith; limit = omega arith; reserved = omega arith; charged = omega arith; returned = omega arith }
row_step Charged was cost account r old new live is a b c = record { balance = omega arith; limit = omega arith; reserved = omega arith; charged = omega arith; returned = omega arith }
row_step Refused was cost account r old new live is a b c = record { balance = omega arith; limit = omega arith; reserved = omega arith; charged = omega arith; returned = omega arith }
row_step Unanswered was cost account r old new live is a b c = record { balance = omega arith; limit = omega arith; reserved = omega arith; charged = omega arith; returned = omega arith }
row_step Unsent was cost account r old new live is a b c = record { balance = omega arith; limit = omega arith; reserved = omega arith; charged = omega arith; returned = omega arith }

share_of_own : (f : Phase → ℕ → ℕ) (r : Request) → share f r.state.account r ≡ f r.state.phase r.state.cost
share_of_own f r = rw (eq-eqb r.state.account r.state.account refl) refl

share_of_other : (f : Phase → ℕ → ℕ) (account : ℕ) (r : Request) → account ≢ r.state.account → share f account r ≡ 0
share_of_other f account r ne = rw (ne_eqb r.state.account account (λ e. ne (sym e))) refl

moves_own : (f : Phase → ℕ → ℕ) (rs : List Request) (place : ℕ) (r : Request) (attempts : ℕ) (phase : Phase) → place < length rs → get_or rs place r ≡ r →
    MovesTo f r.state.phase phase r.state.cost r.state.account (map entry_of rs) (map entry_of (set rs place (became attempts phase r)))
moves_own f rs place r attempts phase lt is =
    let e = over-set f r.state.account rs place (became attempts phase r) r lt in
    let old : share f r.state.account (get_or rs place r) ≡ f r.state.phase r.state.cost = ap (share f r.state.account) is ∙ share_of_own f r in
    let new : share f r.state.account (became attempts phase r) ≡ f phase r.state.cost = share_of_own f (became attempts phase r) in
    omega arith

same_other : (f : Phase → ℕ → ℕ) (account : ℕ) (rs : List Request) (place : ℕ) (r : Request) (r' : Request) → place < length rs → get_or rs place r ≡ r → r'.state.account ≡ r.state.account → account ≢ r.state.account →
    over f account (map entry_of (set rs place r')) ≡ over f account (map entry_of rs)
same_other f account rs place r r' lt is own ne =
    let e = over-set f account rs place r' r lt in
    let old : share f account (get_or rs place r) ≡ 0 = ap (share f account) is ∙ share_of_other f account r ne in
    let new : share f account r' ≡ 0 = share_of_other f account r' (λ i. ne (i ∙ own)) in
    omega arith

row_same : (account : ℕ) (r : Row) (old new : List Entry) → IsRowOf r account old →
    ((f : Phase → ℕ → ℕ) → over f account new ≡ over f account old) → IsRowOf r account new
row_same account r old new is same = let a = same reserved_of in let b = same charged_of in let c = same returned_of in
    record { balance = is.balance; limit = is.limit; reserved = omega arith; charged = omega arith; returned = omega arith }

-- a ready or open request gets another phase
pub rows_concluded : (rows : List Row) (rs : List Request) (place : ℕ) (r : Request) (attempts : ℕ) (phase : Phase) → IsLive r.state.phase → place < length rs → get_or rs place r ≡ r → r.state.account < length rows → AreRows rows rs →
    AreRows (set rows r.state.account (row_after phase r.state.cost (get_or rows r.state.account no_row))) (set rs place (became attempts phase r))
rows_concluded rows rs place r attempts phase live lt is inside are account below = dite (ℕ_discrete account r.state.account)
    (λ own. rw own (rw (get_or-set_same rows r.state.account (row_after phase r.state.cost (get_or rows r.state.account no_row)) no_row inside)
    (row_step phase r.state.phase r.state.cost r.state.account (get_or rows r.state.account no_row) (map entry_of rs) (map entry_of (set rs place (became attempts phase r)))
    (reserved_live r.state.phase r.state.cost live) (are r.state.account inside) (moves_own reserved_of rs place r attempts phase lt is) (moves_own charged_of rs place r attempts phase lt is) (moves_own returned_of rs place r attempts phase lt is))))
    (λ ne. rw (get_or-set_other rows r.state.account account (row_after phase r.state.cost (get_or rows r.state.account no_row)) no_row ne)
    (row_same account (get_or rows account no_row) (map entry_of rs) (map entry_of (set rs place (became attempts phase r)))
    (are account (omega (arith, length-set rows r.state.account (row_after phase r.state.cost (get_or rows r.state.account no_row)))))
    (λ f. same_other f account rs place r (became attempts phase r) lt is refl ne)))

-- a request keeps its name and cost, and stays within its bounds
pub requests_written : (most accounts : ℕ) (rs : List Request) (place : ℕ) (r r' : Request) → AreRequests most accounts rs → place < length rs → get_or rs place r ≡ r → r'.id ≡ r.id → cost_of r' ≡ cost_of r →
    excess most accounts r' ≡ 0 → AreRequests most accounts (set rs place r')
requests_written most accounts rs place r r' are lt is id cost within =
    let c = sum_by-set cost_of rs place r' r lt in let co : cost_of (get_or rs place r) ≡ cost_of r = ap cost_of is in
    let b = sum_by-set (excess most accounts) rs place r' r lt in let n = length-set rs place r' in
    record {
      distinct = λ q. let d = sum_by-set (is_named q) rs place r' r lt in let old : is_named q (get_or rs place r) ≡ is_named q r = ap (is_named q) is in
          let new : is_named q r' ≡ is_named q r = ap (λ (i : ℕ). if i == q then 1 else 0) id in let one = are.distinct q in omega arith;
      bounded = omega (arith, are.bounded);
      costs = rw n (omega (arith, are.costs));
    }

pub within : (most accounts : ℕ) (rs : List Request) (place : ℕ) (r : Request) → AreRequests most accounts rs → place < length rs → get_or rs place r ≡ r → excess most accounts r ≡ 0
within most accounts rs place r are lt is =
    let le = get_or-le-sum_by (excess most accounts) rs place r lt in let e : excess most accounts (get_or rs place r) ≡ excess most accounts r = ap (excess most accounts) is in
    omega (arith, are.bounded)

-- a request that stands at a place
pub get_or-at : (rs : List Request) (p : ℕ) (r d : Request) → slice_get rs p ≡ Some r → (p < length rs) × (get_or rs p d ≡ r)
get_or-at [] p r d e = absurd (cc)
get_or-at (x ∷ rs) zero r d e = (omega arith, cc)
get_or-at (x ∷ rs) (suc p) r d e = let h = get_or-at rs p r d e in (omega (arith, h.0), h.1)

-- no sum of what came back wraps: names are numbers of 32 bits, and each request gives back once

is_below : ℕ → Request → ℕ
is_below n r = if nat_lt r.id n then 1 else 0

below_one : (n : ℕ) (r : Request) → is_below (suc n) r ≡ is_below n r + is_named n r
unfolding is_below
below_one n r = grind (arith, nat_tests)

below_more : (n : ℕ) (rs : List Request) → sum_by (is_below (suc n)) rs ≡ sum_by (is_below n) rs + sum_by (is_named n) rs
below_more n [] = refl
below_more n (r ∷ rs) = omega (arith, sum_by-cons (is_below (suc n)) r rs, sum_by-cons (is_below n) r rs, sum_by-cons (is_named n) r rs, below_one n r, below_more n rs)

below_zero : (r : Request) → is_below 0 r ≡ 0
unfolding is_below
below_zero r = grind (arith, nat_tests)

none_below_zero : (rs : List Request) → sum_by (is_below 0) rs ≡ 0
none_below_zero [] = refl
none_below_zero (r ∷ rs) = omega (arith, sum_by-cons (is_below 0) r rs, below_zero r, none_below_zero rs)

few_below : (rs : List Request) → ((id : ℕ) → sum_by (is_named id) rs ≤ 1) → (n : ℕ) → sum_by (is_below n) rs ≤ n
few_below rs distinct zero = omega (arith, none_below_zero rs)
few_below rs distinct (suc n) = omega (arith, below_more n rs, distinct n, few_below rs distinct n)

below_top : (n : ℕ) (r : Request) → r.id < n → is_below n r ≡ 1
unfolding is_below
below_top n r lt = grind (arith, nat_tests)

all_below : (most accounts : ℕ) (rs : List Request) → sum_by (excess most accounts) rs ≡ 0 → sum_by (is_below (2 ^ 32)) rs ≡ length rs
all_below most accounts [] none = refl
all_below most accounts (r ∷ rs) none =
    let e = sum_by-cons (excess most accounts) r rs in
    let here : r.id < 2 ^ 32 = omega arith in
    omega (arith, sum_by-cons (is_below (2 ^ 32)) r rs, below_top (2 ^ 32) r here, all_below most accounts rs (omega arith))

pub requests_few : (most accounts : ℕ) (rs : List Request) → AreRequests most accounts rs → length rs ≤ 2 ^ 32
requests_few most accounts rs are = omega (arith, all_below most accounts rs are.bounded, few_below rs are.distinct (2 ^ 32))

returned_le : (phase : Phase) (cost : ℕ) → returned_of phase cost ≤ cost
returned_le Ready cost = omega arith
returned_le Open cost = omega arith
returned_le Charged cost = omega arith
returned_le Refused cost = omega arith
returned_le Unanswered cost = omega arith
returned_le Unsent cost = omega arith

share_le : (account : ℕ) (r : Request) → share returned_of account r ≤ cost_of r
share_le account r = dite (ℕ_discrete r.state.account account)
    (λ is. rw (eq-eqb r.state.account account is) (returned_le r.state.phase r.state.cost))
    (λ ne. rw (ne_eqb r.state.account account ne) (omega arith))

returned_sum : (account : ℕ) (rs : List Request) → sum_by (share returned_of account) rs ≤ sum_by cost_of rs
returned_sum account [] = omega arith
returned_sum account (r ∷ rs) = omega (arith, sum_by-cons (share returned_of account) r rs, sum_by-cons cost_of r rs, share_le account r, returned_sum account rs)

pub returned_small : (most accounts account : ℕ) (rs : List Request) → AreRequests most accounts rs → over returned_of account (map entry_of rs) ≤ largest_cost * 2 ^ 32
returned_small most accounts account rs are =
    let s = over-sum_by returned_of account rs in let l = returned_sum account rs in let n = requests_few most accounts rs are in omega (arith, are.costs)

-- a live request's credits are reserved
pub reserved_enough : (rs : List Request) (place : ℕ) (r : Request) → IsLive r.state.phase → place < length rs → get_or rs place r ≡ r → r.state.cost ≤ over reserved_of r.state.account (map entry_of rs)
reserved_enough rs place r live lt is =
    let e : share reserved_of r.state.account (get_or rs place r) ≡ r.state.cost = ap (share reserved_of r.state.account) is ∙ share_of_own reserved_of r ∙ (reserved_live r.state.phase r.state.cost live).0 in
    let le = get_or-le-sum_by (share reserved_of r.state.account) rs place r lt in
    omega (arith, over-sum_by reserved_of r.state.account rs)

-- a request that some slot has is there, and open
open_le_named : (id : ℕ) (r : Request) → is_open_named id r ≤ is_named id r
open_le_named id r = dite (ℕ_discrete r.id id) (λ is. rw (eq-eqb r.id id is) (step r.state.phase)) (λ ne. rw (ne_eqb r.id id ne) (omega arith))
  where
    step : (phase : Phase) → one_if_open phase ≤ 1
    step Ready = omega arith
    step Open = omega arith
    step Charged = omega arith
    step Refused = omega arith
    step Unanswered = omega arith
    step Unsent = omega arith

open_sum : (id : ℕ) (rs : List Request) → sum_by (is_open_named id) rs ≤ sum_by (is_named id) rs
open_sum id [] = omega arith
open_sum id (r ∷ rs) = omega (arith, sum_by-cons (is_open_named id) r rs, sum_by-cons (is_named id) r rs, open_le_named id r, open_sum id rs)

next_placed : (id : ℕ) (r : Request) (rs : List Request) (p : ℕ) → r.id ≢ id → place_of id rs ≡ Some p → place_of id (r ∷ rs) ≡ Some (suc p)
next_placed id r rs p ne e = rw (ne_eqb r.id id ne) (ap (option_map suc) e)

first_placed : (id : ℕ) (r : Request) (rs : List Request) → r.id ≡ id → place_of id (r ∷ rs) ≡ Some 0
first_placed id r rs is = rw (eq-eqb r.id id is) refl

-- the place of the open request with this id
record OpenThere (id : ℕ) (rs : List Request) (d : Request) : Type 0 where
  place : ℕ
  placed : place_of id rs ≡ Some place
  opens : one_if_open (get_or rs place d).state.phase ≡ 1

open_there : (id : ℕ) (rs : List Request) (d : Request) → sum_by (is_named id) rs ≤ 1 → 0 < sum_by (is_open_named id) rs → OpenThere id rs d
open_there id [] d one some = absurd (omega arith)
open_there id (r ∷ rs) d one some =
    let n = sum_by-cons (is_named id) r rs in let o = sum_by-cons (is_open_named id) r rs in
    dite (ℕ_discrete r.id id)
    (λ is. let named : is_named id r ≡ 1 = rw (eq-eqb r.id id is) in let opened : is_open_named id r ≡ one_if_open r.state.phase = rw (eq-eqb r.id id is) in
    let rest = open_sum id rs in let le = open_le_named id r in record { place = 0; placed = first_placed id r rs is; opens = omega arith })
    (λ ne. let opened : is_open_named id r ≡ 0 = rw (ne_eqb r.id id ne) in let named : is_named id r ≡ 0 = rw (ne_eqb r.id id ne) in
    let ih = open_there id rs d (omega arith) (omega arith) in record { place = suc ih.place; placed = next_placed id r rs ih.place ne ih.placed; opens = ih.opens })

-- a new request

row_reserved : (account cost : ℕ) (r : Row) (old new : List Entry) → IsRowOf r account old → cost ≤ r.free →
    over reserved_of account new ≡ over reserved_of account old + cost → over charged_of account new ≡ over charged_of account old → over returned_of account new ≡ over returned_of account old →
    IsRowOf (record r { free = r.free - cost; reserved = r.reserved + cost }) account new
row_reserved account cost r old new is le a b c = record { balance = omega (arith, is.balance); limit = is.limit; reserved = omega (arith, is.reserved); charged = omega (arith, is.charged); returned = omega (arith, is.returned) }

pub rows_reserved : (rows : List Row) (rs : List Request) (r : Request) → r.state.phase ≡ Ready → r.state.account < length rows → r.state.cost ≤ (get_or rows r.state.account no_row).free → AreRows rows rs →
    AreRows (set rows r.state.account (record (get_or rows r.state.account no_row) { free = (get_or rows r.state.account no_row).free - r.state.cost; reserved = (get_or rows r.state.account no_row).reserved + r.state.cost })) (rs ++ r ∷ [])
rows_reserved rows rs r ready inside le are account below =
    let row = get_or rows r.state.account no_row in
    let next : Row = record row { free = row.free - r.state.cost; reserved = row.reserved + r.state.cost } in
    dite (ℕ_discrete account r.state.account)
    (λ own. rw own (rw (get_or-set_same rows r.state.account next no_row inside)
    (row_reserved r.state.account r.state.cost row (map entry_of rs) (map entry_of (rs ++ r ∷ [])) (are r.state.account inside) le
    (over-push reserved_of r.state.account rs r ∙ ap (λ (n : ℕ). over reserved_of r.state.account (map entry_of rs) + n) (share_of_own reserved_of r ∙ ap (λ (p : Phase). reserved_of p r.state.cost) ready))
    (over-push charged_of r.state.account rs r ∙ omega (arith, share_of_own charged_of r ∙ ap (λ (p : Phase). charged_of p r.state.cost) ready))
    (over-push returned_of r.state.account rs r ∙ omega (arith, share_of_own returned_of r ∙ ap (λ (p : Phase). returned_of p r.state.cost) ready)))))
    (λ ne. rw (get_or-set_other rows r.state.account account next no_row ne)
    (row_same account (get_or rows account no_row) (map entry_of rs) (map entry_of (rs ++ r ∷ [])) (are account (omega (arith, length-set rows r.state.account next)))
    (λ f. over-push f account rs r ∙ omega (arith, share_of_other f account r ne))))

pub requests_pushed : (most accounts : ℕ) (rs : List Request) (r : Request) → AreRequests most accounts rs → sum_by (is_named r.id) rs ≡ 0 → r.state.cost ≤ largest_cost → excess most accounts r ≡ 0 → AreRequests most accounts (rs ++ r ∷ [])
requests_pushed most accounts rs r are new le fine = record {
  distinct = λ q. let s = sum_by_push (is_named q) rs r in dite (ℕ_discrete r.id q)
      (λ is. let none : sum_by (is_named q) rs ≡ 0 = ap (λ (i : ℕ). sum_by (is_named i) rs) (sym is) ∙ new in let one : is_named q r ≡ 1 = rw (eq-eqb r.id q is) in omega arith)
      (λ ne. let none : is_named q r ≡ 0 = rw (ne_eqb r.id q ne) in let few = are.distinct q in omega arith);
  bounded = omega (arith, sum_by_push (excess most accounts) rs r, are.bounded);
  costs = let c = sum_by_push cost_of rs r in let n = length_push rs r in omega (arith, are.costs);
}

pub none_named : (id : ℕ) (rs : List Request) → find_request id rs ≡ None → sum_by (is_named id) rs ≡ 0
none_named id [] none = refl
none_named id (r ∷ rs) none = dite (ℕ_discrete r.id id)
    (λ is. let e : find_request id (r ∷ rs) ≡ Some r.state = rw (eq-eqb r.id id is) refl in absurd (cc (e, none)))
    (λ ne. let zero_here : is_named id r ≡ 0 = rw (ne_eqb r.id id ne) in let e : find_request id (r ∷ rs) ≡ find_request id rs = rw (ne_eqb r.id id ne) refl in
    omega (arith, sum_by-cons (is_named id) r rs, none_named id rs (sym e ∙ none)))

phase_open : (phase : Phase) → one_if_open phase ≡ 1 → phase ≡ Open
phase_open Ready e = absurd (omega arith)
phase_open Open e = refl
phase_open Charged e = absurd (omega arith)
phase_open Refused e = absurd (omega arith)
phase_open Unanswered e = absurd (omega arith)
phase_open Unsent e = absurd (omega arith)

pub open_found : (id : ℕ) (rs : List Request) (place : ℕ) (r : Request) → sum_by (is_named id) rs ≤ 1 → 0 < sum_by (is_open_named id) rs → place_of id rs ≡ Some place → slice_get rs place ≡ Some r → r.state.phase ≡ Open
open_found id rs place r one some placed at =
    let there = open_there id rs r one some in
    let same : there.place ≡ place = cc (there.placed, placed) in
    let is = (get_or-at rs place r r at).1 in
    phase_open r.state.phase (ap (λ (x : Request). one_if_open x.state.phase) (sym is) ∙ ap (λ (p : ℕ). one_if_open (get_or rs p r).state.phase) (sym same) ∙ there.opens)

pub open_placed : (id : ℕ) (rs : List Request) → sum_by (is_named id) rs ≤ 1 → 0 < sum_by (is_open_named id) rs → find_request id rs ≢ None
open_placed id rs one some none = let n = none_named id rs none in let o = open_sum id rs in omega arith

-- the account of a request is there
pub account_inside : (most accounts : ℕ) (rs : List Request) (place : ℕ) (r : Request) → AreRequests most accounts rs → place < length rs → get_or rs place r ≡ r → r.state.account < accounts
account_inside most accounts rs place r are lt is = omega (arith, within most accounts rs place r are lt is)

pub became_within : (most accounts attempts : ℕ) (phase : Phase) (r : Request) → excess most accounts r ≡ 0 → attempts + one_if_ready phase ≤ most → excess most accounts (became attempts phase r) ≡ 0
became_within most accounts attempts phase r e le = omega arith

-- all that is kept after a request's next phase
pub kept_advanced : (most : ℕ) (rows : List Row) (rs : List Request) (place : ℕ) (r : Request) (attempts : ℕ) (phase : Phase) → IsKept most rows rs → IsLive r.state.phase → place < length rs → get_or rs place r ≡ r →
    attempts + one_if_ready phase ≤ most → IsKept most (set rows r.state.account (row_after phase r.state.cost (get_or rows r.state.account no_row))) (set rs place (became attempts phase r))
kept_advanced most rows rs place r attempts phase kept live lt is left =
    let inside = account_inside most (length rows) rs place r kept.requests_are lt is in
    let e = within most (length rows) rs place r kept.requests_are lt is in
    record {
      some = kept.some;
      few = kept.few;
      accounts = rw (length-set rows r.state.account (row_after phase r.state.cost (get_or rows r.state.account no_row))) kept.accounts;
      rows_are = rows_concluded rows rs place r attempts phase live lt is inside kept.rows_are;
      requests_are = rw (length-set rows r.state.account (row_after phase r.state.cost (get_or rows r.state.account no_row)))
          (requests_written most (length rows) rs place r (became attempts phase r) kept.requests_are lt is refl refl (became_within most (length rows) attempts phase r e left));
    }

pub row_after-topped : (phase : Phase) (cost : ℕ) (r : Row) → (row_after phase cost r).topped ≡ r.topped
row_after-topped Ready cost r = refl
row_after-topped Open cost r = refl
row_after-topped Charged cost r = refl
row_after-topped Refused cost r = refl
row_after-topped Unanswered cost r = refl
row_after-topped Unsent cost r = refl

-- a row that keeps its top-ups is set
pub topped_kept : (rows : List Row) (account : ℕ) (r : Row) → r.topped ≡ (get_or rows account no_row).topped → map (λ (x : Row). x.topped) (set rows account r) ≡ map (λ (x : Row). x.topped) rows
topped_kept rows account r e = map-set_same (λ (x : Row). x.topped) rows account r no_row e

pub topped_at : (rows : List Row) (account : ℕ) → get_or (map (λ (x : Row). x.topped) rows) account 0 ≡ (get_or rows account no_row).topped
topped_at [] account = refl
topped_at (r ∷ rows) zero = refl
topped_at (r ∷ rows) (suc account) = topped_at rows account

-- all that is kept after a new request
pub kept_reserved : (most : ℕ) (rows : List Row) (rs : List Request) (id account cost : ℕ) → IsKept most rows rs → id < 2 ^ 32 → account < length rows → find_request id rs ≡ None → cost ≤ largest_cost →
    cost ≤ (get_or rows account no_row).free →
    IsKept most (set rows account (record (get_or rows account no_row) { free = (get_or rows account no_row).free - cost; reserved = (get_or rows account no_row).reserved + cost })) (rs ++ reserved_request id account cost ∷ [])
kept_reserved most rows rs id account cost kept low inside new small credit =
    let row = get_or rows account no_row in
    let next : Row = record row { free = row.free - cost; reserved = row.reserved + cost } in
    let fine : excess most (length rows) (reserved_request id account cost) ≡ 0 = omega (arith, kept.some) in
    record {
      some = kept.some;
      few = kept.few;
      accounts = rw (length-set rows account next) kept.accounts;
      rows_are = rows_reserved rows rs (reserved_request id account cost) refl inside credit kept.rows_are;
      requests_are = rw (length-set rows account next) (requests_pushed most (length rows) rs (reserved_request id account cost) kept.requests_are (none_named id rs new) small fine);
    }

-- all that is kept after a top-up
pub kept_topped : (most : ℕ) (rows : List Row) (rs : List Request) (account amount : ℕ) (r : Row) → IsKept most rows rs → account < length rows → r ≡ get_or rows account no_row → r.topped + amount ≤ most_topped →
    IsKept most (set rows account (record r { topped = r.topped + amount; free = r.free + amount })) rs
kept_topped most rows rs account amount r kept inside at limit =
    let next : Row = record r { topped = r.topped + amount; free = r.free + amount } in
    let was : IsRowOf r account (map entry_of rs) = rw at (kept.rows_are account inside) in
    record {
      some = kept.some;
      few = kept.few;
      accounts = rw (length-set rows account next) kept.accounts;
      rows_are = λ other low. dite (ℕ_discrete other account)
          (λ own. rw own (rw (get_or-set_same rows account next no_row inside)
          (record { balance = let b = was.balance in omega arith; limit = limit; reserved = was.reserved; charged = was.charged; returned = was.returned })))
          (λ ne. rw (get_or-set_other rows account other next no_row ne) (kept.rows_are other (let l = length-set rows account next in omega arith)));
      requests_are = rw (length-set rows account next) kept.requests_are;
    }

-- an account's kept row is the row of its sums
pub kept_free : (r : Row) (account topped : ℕ) (es : List Entry) → IsRowOf r account es → topped ≡ r.topped → (row_of topped account es).free ≡ r.free
kept_free r account topped es is e = omega (arith, is.balance, is.reserved, is.charged)

pub topped_none : (n : ℕ) → map (λ (x : Row). x.topped) (replicate n no_row) ≡ replicate n 0
topped_none zero = refl
topped_none (suc n) = ap (λ (xs : List ℕ). 0 ∷ xs) (topped_none n)

abbrev pub records : ℕ → List ℕ → List Request → List ℕ → ℕ → Records
records attempts topped requests links room = record { attempts = attempts; topped = topped; requests = requests; links = links; room = room }
