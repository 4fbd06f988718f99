-- A book into which its till and shares are gathered.
use Rattle.std.proofs.Common.{◌≡◌, ℕ, zero, suc, ◌+◌, ◌<◌, List, [], ◌∷◌, ◌++◌, length, map, set, Some, refl, sym, ap, ◌∙◌, arith, subst, length-set, length-append}
use Rattle.std.specs.Prelude.{slice_get}
use Rattle.std.proofs.lemmas.List.{get_or-map, length-map}
use Rattle.sms_core.specs.declared.row.Row.{Row}
use Rattle.sms_core.specs.Rows.{no_row}
use Rattle.sms_book.specs.declared.amounts.Amounts.{Amounts}
use Rattle.sms_book.specs.declared.rule.Portion.{Portion}
use Rattle.sms_book.specs.declared.rule.Entry.{Entry}
use Rattle.sms_book.specs.Portions.{amounts_at, topped_at, portion_at, row_at, nothing, of_worker, of_till, of_row}
use Rattle.sms_book.specs.Shares.{Share}
use Rattle.sms_book.specs.Rule.{away, at_home, AllAway}
use Rattle.sms_book.specs.Sums.{total, over_shares, AreSound, AddUp, IsTotal, IsSumOf}
use Rattle.sms_book.proofs.Totals.{kept, count_here, adds_home, kept_home, count_home, all_home, none_kept, none_counted}

-- one amount of an account, over the holders that came back
abbrev pub total_of : (Portion → ℕ) → ℕ → List (List Portion) → ℕ
total_of f i [] = 0
total_of f i (ps ∷ held) = f (portion_at ps i) + total_of f i held

pub record Gathered (totals : List Portion) (n : ℕ) (es : List Entry) (held : List (List Portion)) : Type 0 where
  pub sums : AddUp totals es
  pub long : length es ≡ n
  pub count : count_here es ≡ length held
  pub kept_sums : (f : Portion → ℕ) (i : ℕ) → kept f i es ≡ total_of f i held

total_of-snoc : (f : Portion → ℕ) (i : ℕ) (held : List (List Portion)) (ps : List Portion) → total_of f i (held ++ ps ∷ []) ≡ f (portion_at ps i) + total_of f i held
total_of-snoc f i [] ps = refl
total_of-snoc f i (d ∷ held) ps = let rest = total_of-snoc f i held ps in omega arith

-- the till comes back first
pub gathered_open : (totals : List Portion) (n : ℕ) (es : List Entry) (k : ℕ) (ps : List Portion) → AllAway es → length es ≡ n → slice_get es k ≡ Some (away ps) → AddUp totals es → Gathered totals n (set es k (at_home ps)) (ps ∷ [])
gathered_open totals n es k ps all long at sums = record {
  sums = adds_home totals es k ps at sums;
  long = length-set es k (at_home ps) ∙ long;
  count = let c = count_home es k ps at in let d = none_counted es all in omega arith;
  kept_sums = λ f i. let h = kept_home f i es k ps at in let d = none_kept f i es all in omega arith;
}

pub gathered_more : (totals : List Portion) (n : ℕ) (es : List Entry) (held : List (List Portion)) (k : ℕ) (ps : List Portion) → slice_get es k ≡ Some (away ps) → Gathered totals n es held
    → Gathered totals n (set es k (at_home ps)) (held ++ ps ∷ [])
gathered_more totals n es held k ps at g = record {
  sums = adds_home totals es k ps at g.sums;
  long = length-set es k (at_home ps) ∙ g.long;
  count = let c = count_home es k ps at in let l = length-append held (ps ∷ []) in let d = g.count in omega arith;
  kept_sums = λ f i. let h = kept_home f i es k ps at in let s = total_of-snoc f i held ps in let d = g.kept_sums f i in omega arith;
}

-- the till's portions, and those of the shares that came back
abbrev pub back : List ℕ → List Share → List (List Portion)
back till done = map of_till till ∷ map (λ s. map of_worker s.amounts) done

pub back-snoc : (till : List ℕ) (done : List Share) (s : Share) → back till done ++ map of_worker s.amounts ∷ [] ≡ back till (done ++ s ∷ [])
back-snoc till done s = ap (λ (l : List (List Portion)). map of_till till ∷ l) (more done)
  where
    more : (done : List Share) → map (λ s. map of_worker s.amounts) done ++ map of_worker s.amounts ∷ [] ≡ map (λ s. map of_worker s.amounts) (done ++ s ∷ [])
    more [] = refl
    more (d ∷ done) = ap (λ (l : List (List Portion)). map of_worker d.amounts ∷ l) (more done)

worker_at : (a : List Amounts) (i : ℕ) → portion_at (map of_worker a) i ≡ of_worker (amounts_at a i)
worker_at [] i = refl
worker_at (x ∷ a) zero = refl
worker_at (x ∷ a) (suc i) = worker_at a i

till_at : (t : List ℕ) (i : ℕ) → portion_at (map of_till t) i ≡ of_till (topped_at t i)
till_at [] i = refl
till_at (x ∷ t) zero = refl
till_at (x ∷ t) (suc i) = till_at t i

over_workers : (f : Portion → ℕ) (i : ℕ) (done : List Share) → total_of f i (map (λ s. map of_worker s.amounts) done) ≡ over_shares (λ a. f (of_worker a)) i done
over_workers f i [] = refl
over_workers f i (s ∷ done) =
    let rest = over_workers f i done in
    let here : f (portion_at (map of_worker s.amounts) i) ≡ f (of_worker (amounts_at s.amounts i)) = ap f (worker_at s.amounts i) in
    omega arith

none_topped : (i : ℕ) (done : List Share) → over_shares (λ a. 0) i done ≡ 0
none_topped i [] = refl
none_topped i (a ∷ done) = let rest = none_topped i done in omega arith

over_back : (f : Portion → ℕ) (i : ℕ) (till : List ℕ) (done : List Share) → total_of f i (back till done) ≡ f (of_till (topped_at till i)) + over_shares (λ a. f (of_worker a)) i done
over_back f i till done =
    let rest = over_workers f i done in
    let here : f (portion_at (map of_till till) i) ≡ f (of_till (topped_at till i)) = ap f (till_at till i) in
    omega arith

-- each number is with the book, once the till and as many shares as there are workers came back
pub gathered_home : (totals : List Portion) (n : ℕ) (es : List Entry) (till : List ℕ) (done : List Share) → Gathered totals n es (back till done) → length done + 1 ≡ n → count_here es ≡ length es
gathered_home totals n es till done g all = let c = g.count in let l = g.long in let m = length-map done (λ s. map of_worker s.amounts) in omega arith

pub gathered_all : (rows : List Row) (n : ℕ) (es : List Entry) (till : List ℕ) (done : List Share) → AreSound rows → Gathered (map of_row rows) n es (back till done) → length done + 1 ≡ n
    → (i : ℕ) → i < length rows → IsSumOf (row_at rows i) i till done
gathered_all rows n es till done sound g all i low =
    let home = gathered_home (map of_row rows) n es till done g all in
    let row : portion_at (map of_row rows) i ≡ of_row (row_at rows i) = get_or-map of_row rows i no_row nothing low in
    let was : IsTotal (of_row (row_at rows i)) i es = subst (λ (p : Portion). IsTotal p i es) row (g.sums i) in
    let sum : (f : Portion → ℕ) → total f i es ≡ f (of_till (topped_at till i)) + over_shares (λ a. f (of_worker a)) i done = λ f. sym (all_home f i es home) ∙ g.kept_sums f i ∙ over_back f i till done in
    record {
      topped = let a = was.topped in let b = sum (λ p. p.topped) in let z = none_topped i done in omega arith;
      reserved = let a = was.reserved in let b = sum (λ p. p.reserved) in omega arith;
      charged = let a = was.charged in let b = sum (λ p. p.charged) in omega arith;
      returned = let a = was.returned in let b = sum (λ p. p.returned) in omega arith;
      balanced = (sound i low).0;
    }
