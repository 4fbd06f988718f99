-- The keeper's seat gives its names in turn.
use Rattle.std.proofs.Common.{◌≡◌, ℕ, zero, suc, ◌+◌, ◌-◌, ◌*◌, ◌^◌, ◌<◌, ◌≤◌, refl, sym, ap, ◌∙◌, subst, arith}
use Rattle.std.specs.Int.{bit_at}
use mathlib.Core.Logic.{dite}
use native.Mathlib.Decide.{ℕ_discrete, dec_lt}
use Rattle.std.proofs.lemmas.Nat.{pow_below, pow-add}
use Rattle.std.proofs.lemmas.Nat.Bits.{bit_at_mask_inside, bit_at_mask_above}
use Rattle.sms_window.specs.declared.view.View.{View}
use Rattle.sms_window.specs.Seats.{other_names, CanSplit, name_to_give, met_with, giver}
use Rattle.sms_window.specs.Names.{HasNames, gave, KeeperHasAll, GivesGreatestOf, GivesInTurn, GivesAll}
use Rattle.sms_window.proofs.Seats.{top_bit}

-- the highest bit is one number
is_top : (w t k : ℕ) → bit_at w t ≡ 1 → ((i : ℕ) → t < i → bit_at w i ≡ 0) → bit_at w k ≡ 1 → ((i : ℕ) → k < i → bit_at w i ≡ 0) → t ≡ k
is_top w t k at above there beyond = dite (dec_lt t k)
    (λ lt. let z = above k lt in absurd (omega arith))
    (λ ge. dite (dec_lt k t) (λ lt. let z = beyond t lt in absurd (omega arith)) (λ le. omega arith))

pow_suc : (k : ℕ) → 2 ^ (k + 1) ≡ 2 ^ k + 2 ^ k
pow_suc k = let two : 2 ^ (k + 1) ≡ 2 ^ k * 2 ^ 1 = pow-add 2 k 1 in omega arith

fits_64 : (k : ℕ) → k ≤ 64 → 2 ^ k ≤ 2 ^ 64
fits_64 k le = dite (ℕ_discrete k 64) (λ e. subst (λ (i : ℕ). 2 ^ i ≤ 2 ^ 64) (sym e) (omega arith)) (λ ne. let p = pow_below k 64 (omega arith) in omega arith)

-- with one name more than k
gives_next : (k : ℕ) (v : View) → 0 < k → k < 64 → HasNames (k + 1) v → GivesGreatestOf (k + 1) v
gives_next k v pos small has =
    let two = pow_suc k in
    let low = pow_below 0 k pos in
    let most = fits_64 (k + 1) (omega arith) in
    let w : ℕ = 2 ^ (k + 1) - 2 ^ 1 in
    let less : 2 ^ (k + 1) - 1 - 2 ^ 0 ≡ w = omega arith in
    let rest : other_names v ≡ w = (λ i. has.family i - 2 ^ has.name i) ∙ less in
    let can : 0 < other_names v = omega arith in
    let t = top_bit (other_names v) can (omega arith) in
    let there : bit_at (other_names v) k ≡ 1 = ap (λ (m : ℕ). bit_at m k) rest ∙ bit_at_mask_inside 1 (k + 1) k (omega arith) (omega arith) in
    let beyond : (i : ℕ) → k < i → bit_at (other_names v) i ≡ 0 = λ i lt. ap (λ (m : ℕ). bit_at m i) rest ∙ bit_at_mask_above 1 (k + 1) i (omega arith) in
    let given_is : name_to_give v ≡ k = is_top (other_names v) (name_to_give v) k t.set_there t.none_above there beyond in
    let left : 2 ^ (k + 1) - 1 - 2 ^ k ≡ 2 ^ k - 1 = omega arith in
    let back : k ≡ k + 1 - 1 = omega arith in
    let kept : HasNames k (giver v) = record { name = has.name; family = (λ i. has.family i - 2 ^ given_is i) ∙ left } in
    record { can = can; greatest = given_is ∙ back; rest = subst (λ (m : ℕ). HasNames m (giver v)) back kept }

pub keeper_has_all : KeeperHasAll
keeper_has_all o = record { name = refl; family = refl }

pub gives_in_turn : GivesInTurn
gives_in_turn n v some few has =
    let e : n ≡ n - 1 + 1 = omega arith in
    subst (λ (m : ℕ). GivesGreatestOf m v) (sym e) (gives_next (n - 1) v (omega arith) (omega arith) (subst (λ (m : ℕ). HasNames m v) e has))

pub gives_all : GivesAll
gives_all zero n v some few has = let e : n ≡ n - 0 = omega arith in subst (λ (m : ℕ). HasNames m v) e has
gives_all (suc k) n v some few has =
    let next = gives_in_turn n v (omega arith) few has in
    let e : n - 1 - k ≡ n - suc k = omega arith in
    subst (λ (m : ℕ). HasNames m (gave k (giver v))) e (gives_all k (n - 1) (giver v) (omega arith) (omega arith) next.rest)

-- for a seat with two names or more: it can split
pub can_split : (n : ℕ) (v : View) → 2 ≤ n → n ≤ 64 → HasNames n v → CanSplit v
can_split n v some few has = (gives_in_turn n v some few has).can

-- and what `split` leaves
pub gave_one : (n word : ℕ) (v w : View) → 2 ≤ n → n ≤ 64 → HasNames n v → w ≡ met_with (giver v) word → HasNames (n - 1) w
gave_one n word v w some few has e =
    let next = (gives_in_turn n v some few has).rest in
    record { name = ap (λ (x : View). x.name) e ∙ next.name; family = ap (λ (x : View). x.family) e ∙ next.family }

-- steps that leave the names
pub kept_names : (n : ℕ) (v w : View) → w.name ≡ v.name → w.family ≡ v.family → HasNames n v → HasNames n w
kept_names n v w name family has = record { name = name ∙ has.name; family = family ∙ has.family }
