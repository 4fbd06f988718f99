-- A book whose numbers are dealt out, one after another.
use Rattle.std.proofs.Common.{◌≡◌, ℕ, zero, suc, ◌<◌, List, [], ◌∷◌, ◌++◌, length, map, set, Some, refl, sym, ap, ◌∙◌, subst, arith, replicate, length-append}
use Rattle.std.specs.Prelude.{slice_get, slice_index}
use Rattle.std.proofs.lemmas.List.{get_or-map, length-map, length-replicate}
use Rattle.sms_core.specs.declared.row.Row.{Row}
use Rattle.sms_book.specs.declared.rule.Portion.{Portion}
use Rattle.sms_book.specs.declared.rule.Entry.{Entry}
use Rattle.sms_book.specs.Portions.{row_at, no_amounts, nothing, of_worker, of_till, of_row}
use Rattle.sms_book.specs.Shares.{Share, blank_share, opening_shares}
use Rattle.sms_book.specs.Openings.{AllSmall, opening_row}
use Rattle.sms_book.specs.Rule.{at_home, away, AllAway}
use Rattle.sms_core.specs.Rows.{no_row, IsBalanced}
use Rattle.sms_book.specs.Sums.{AreSound, IsSmall}

-- the entries after the first n numbers went out
abbrev pub dealt : ℕ → List Entry → List Entry
dealt zero es = es
dealt (suc n) [] = []
dealt (suc n) (e ∷ es) = away e.portions ∷ dealt n es

pub get_dealt : (k : ℕ) (es : List Entry) (a : List Portion) → slice_get es k ≡ Some (at_home a) → slice_get (dealt k es) k ≡ Some (at_home a)
get_dealt zero es a e = e
get_dealt (suc k) [] a e = e
get_dealt (suc k) (x ∷ es) a e = get_dealt k es a e

pub set_dealt : (k : ℕ) (es : List Entry) (a : List Portion) → slice_get es k ≡ Some (at_home a) → set (dealt k es) k (away a) ≡ dealt (suc k) es
set_dealt zero [] a e = refl
set_dealt zero (x ∷ es) a e = let same : at_home a ≡ x = cc in ap (λ (y : Entry). away y.portions ∷ es) same
set_dealt (suc k) [] a e = refl
set_dealt (suc k) (x ∷ es) a e = ap (λ (l : List Entry). away x.portions ∷ l) (set_dealt k es a e)

-- an element of a list of equal ones
pub replicate_get : {A : Type 0} (n k : ℕ) (x : A) → k < n → slice_get (replicate n x) k ≡ Some x
replicate_get zero k x l = absurd (omega arith)
replicate_get (suc n) zero x l = refl
replicate_get (suc n) (suc k) x l = replicate_get n k x (omega arith)

-- all went out
pub dealt-replicate : (n : ℕ) (a : List Portion) → dealt n (replicate n (at_home a)) ≡ replicate n (away a)
dealt-replicate zero a = refl
dealt-replicate (suc n) a = ap (λ (l : List Entry). away a ∷ l) (dealt-replicate n a)

pub AllAway-replicate : (n : ℕ) (a : List Portion) → AllAway (replicate n (away a))
AllAway-replicate zero a = tt
AllAway-replicate (suc n) a = (refl, AllAway-replicate n a)

-- the rows of a new book are sound, and agree with its totals
pub sound-opening : (credits : List ℕ) → AllSmall credits → AreSound (map opening_row credits)
sound-opening credits small i below =
    let low : i < length credits = let l = length-map credits opening_row in omega arith in
    let row : row_at (map opening_row credits) i ≡ opening_row (slice_index credits i) = get_or-map opening_row credits i 0 no_row low in
    let most = small i low in
    subst (λ (r : Row). IsBalanced r × IsSmall r) (sym row) (omega arith, (most, omega arith))

pub totals-opening : (credits : List ℕ) → map of_till credits ≡ map of_row (map opening_row credits)
totals-opening [] = refl
totals-opening (c ∷ credits) = ap (λ (l : List Portion). of_till c ∷ l) (totals-opening credits)

-- an element of a list of equal ones
middle : {A : Type 0} (xs : List A) (y : A) (zs : List A) (n : ℕ) (x : A) → xs ++ y ∷ zs ≡ replicate n x → (y ≡ x) × (length xs < n)
middle [] y zs zero x e = absurd (cc)
middle [] y zs (suc n) x e = (cc, omega arith)
middle (z ∷ xs) y zs zero x e = absurd (cc)
middle (z ∷ xs) y zs (suc n) x e =
    let rest : xs ++ y ∷ zs ≡ replicate n x = cc in
    let m = middle xs y zs n x rest in
    (m.0, let l = m.1 in omega arith)

replicate_push : {A : Type 0} (n : ℕ) (x : A) (zs : List A) → replicate n x ++ x ∷ zs ≡ replicate (suc n) x ++ zs
replicate_push zero x zs = refl
replicate_push (suc n) x zs = ap (λ l. x ∷ l) (replicate_push n x zs)

-- what the next of a list of equal ones is, of which so many were taken, and what is left behind it
pub record IsNextEqual {A : Type 0} (taken n : ℕ) (x y : A) (zs : List A) : Type 0 where
  pub same : y ≡ x
  pub few : taken < n
  pub rest : replicate (suc taken) x ++ zs ≡ replicate n x

pub next_equal : {A : Type 0} (taken n : ℕ) (x y : A) (ys zs : List A) → replicate taken x ++ ys ≡ replicate n x → ys ≡ y ∷ zs → IsNextEqual taken n x y zs
next_equal taken n x y ys zs all is =
    let whole : replicate taken x ++ y ∷ zs ≡ replicate n x = ap (λ l. replicate taken x ++ l) (sym is) ∙ all in
    let m = middle (replicate taken x) y zs n x whole in
    let count = length-replicate taken x in
    record {
      same = m.0;
      few = let l = m.1 in omega arith;
      rest = sym (replicate_push taken x zs) ∙ ap (λ z. replicate taken x ++ z ∷ zs) (sym m.0) ∙ whole;
    }

-- all were taken
pub all_taken : {A : Type 0} (taken n : ℕ) (x : A) (ys : List A) → replicate taken x ++ ys ≡ replicate n x → length ys ≡ 0 → taken ≡ n
all_taken taken n x ys all none =
    let a = length-replicate taken x in
    let b = length-replicate n x in
    let c = length-append (replicate taken x) ys in
    let d : length (replicate taken x ++ ys) ≡ length (replicate n x) = ap length all in
    omega arith

-- one share more
pub shares_push : (accounts n m : ℕ) (shares : List Share) (s : Share) → shares ≡ opening_shares accounts n → m ≡ suc n → s.number ≡ suc n → s.amounts ≡ replicate accounts no_amounts → shares ++ s ∷ [] ≡ opening_shares accounts m
shares_push accounts n m shares s was next number amounts =
    let new : s ≡ blank_share accounts (suc n) = (λ i. record { number = number i; amounts = amounts i }) in
    (λ i. was i ++ new i ∷ []) ∙ ap (opening_shares accounts) (sym next)

pub workers-nothing : (n : ℕ) → map of_worker (replicate n no_amounts) ≡ replicate n nothing
workers-nothing zero = refl
workers-nothing (suc n) = ap (λ (l : List Portion). nothing ∷ l) (workers-nothing n)
