-- The shares with which a book opens.
use Rattle.std.proofs.Common.{◌≡◌, ℕ, zero, suc, ◌+◌, ◌<◌, List, [], ◌∷◌, ◌++◌, length, map, Some, refl, sym, ap, ◌∙◌, arith, length-append, replicate}
use Rattle.std.specs.Prelude.{slice_get}
use Rattle.std.proofs.lemmas.List.{map-append}
use mathlib.Core.Logic.{dite}
use native.Mathlib.Decide.{ℕ_discrete}
use Rattle.sms_core.specs.Numbers.{times, once_below}
use Rattle.sms_core.proofs.Numbers.{times_push}
use Rattle.sms_book.specs.declared.amounts.Amounts.{Amounts}
use Rattle.sms_book.specs.Portions.{no_amounts, amounts_at}
use Rattle.sms_book.specs.Shares.{Share, blank_share, opening_shares, AreAll}
use Rattle.sms_book.specs.Sums.{over_shares}
use Rattle.sms_book.specs.Laws.{OpeningSharesAreBlank}

module _ {A : Type 0} where
  get_front : (xs ys : List A) (k : ℕ) (x : A) → slice_get xs k ≡ Some x → slice_get (xs ++ ys) k ≡ Some x
  get_front [] ys k x e = absurd (cc)
  get_front (z ∷ xs) ys zero x e = e
  get_front (z ∷ xs) ys (suc k) x e = get_front xs ys k x e

  get_last : (xs : List A) (x : A) (k : ℕ) → k ≡ length xs → slice_get (xs ++ x ∷ []) k ≡ Some x
  get_last [] x zero e = refl
  get_last [] x (suc k) e = absurd (omega arith)
  get_last (z ∷ xs) x zero e = absurd (omega arith)
  get_last (z ∷ xs) x (suc k) e = get_last xs x k (omega arith)

-- a share that moved nothing has nothing of any account
pub blank_has_nothing : (accounts number i : ℕ) → amounts_at (blank_share accounts number).amounts i ≡ no_amounts
blank_has_nothing accounts number i = go accounts i
  where
    go : (n i : ℕ) → amounts_at (replicate n no_amounts) i ≡ no_amounts
    go zero i = refl
    go (suc n) zero = refl
    go (suc n) (suc i) = go n i

pub length-opening_shares : (accounts workers : ℕ) → length (opening_shares accounts workers) ≡ workers
length-opening_shares accounts zero = refl
length-opening_shares accounts (suc w) =
    let l = length-append (opening_shares accounts w) (blank_share accounts (suc w) ∷ []) in
    let rest = length-opening_shares accounts w in
    omega arith

-- the share in place k has the number k + 1, and moved nothing
pub opening_share : (accounts workers k : ℕ) → k < workers → slice_get (opening_shares accounts workers) k ≡ Some (blank_share accounts (k + 1))
opening_share accounts zero k low = absurd (omega arith)
opening_share accounts (suc w) k low = dite (ℕ_discrete k w)
    (λ is. let number : suc w ≡ k + 1 = omega arith in
    get_last (opening_shares accounts w) (blank_share accounts (suc w)) k (is ∙ sym (length-opening_shares accounts w)) ∙ ap (λ (n : ℕ). Some (blank_share accounts n)) number)
    (λ ne. get_front (opening_shares accounts w) (blank_share accounts (suc w) ∷ []) k (blank_share accounts (k + 1)) (opening_share accounts w k (omega arith)))

-- they are all shares of their book
pub opening_shares_all : (accounts workers : ℕ) → AreAll workers (opening_shares accounts workers)
opening_shares_all accounts zero n = omega arith
opening_shares_all accounts (suc w) n =
    let rest = opening_shares_all accounts w n in
    let push = times_push n (suc w) (map (λ (s : Share). s.number) (opening_shares accounts w)) in
    let one : once_below n (w + 1) ≡ once_below n (suc w) = ap (once_below n) (let e : w + 1 ≡ suc w = omega arith in e) in
    let numbers : times n (map (λ (s : Share). s.number) (opening_shares accounts (suc w))) ≡ times n (map (λ (s : Share). s.number) (opening_shares accounts w) ++ suc w ∷ []) =
    ap (times n) (map-append (λ (s : Share). s.number) (opening_shares accounts w) (blank_share accounts (suc w) ∷ [])) in
    omega arith

pub over_snoc : (f : Amounts → ℕ) (i : ℕ) (shares : List Share) (s : Share) → over_shares f i (shares ++ s ∷ []) ≡ over_shares f i shares + f (amounts_at s.amounts i)
over_snoc f i [] s = omega arith
over_snoc f i (x ∷ shares) s = let rest = over_snoc f i shares s in omega arith

-- and have moved nothing together
pub over_opening : (accounts workers : ℕ) (f : Amounts → ℕ) (i : ℕ) → f no_amounts ≡ 0 → over_shares f i (opening_shares accounts workers) ≡ 0
over_opening accounts zero f i e = refl
over_opening accounts (suc w) f i e =
    let rest = over_opening accounts w f i e in
    let last = over_snoc f i (opening_shares accounts w) (blank_share accounts (suc w)) in
    let here : f (amounts_at (blank_share accounts (suc w)).amounts i) ≡ 0 = ap f (blank_has_nothing accounts (suc w) i) ∙ e in
    omega arith

pub opening_shares_are_blank : OpeningSharesAreBlank
opening_shares_are_blank accounts workers = (
  record {
    count = length-opening_shares accounts workers;
    each = opening_share accounts workers;
    all = opening_shares_all accounts workers;
    nothing = over_opening accounts workers;
  },
  blank_has_nothing accounts,
)
