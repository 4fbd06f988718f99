-- What dealing does to lengths, and what one element more does.
use Rattle.std.proofs.Common.{◌≡◌, ◌≢◌, ◌==◌, ℕ, Bool, ⊎_elim, zero, suc, ◌+◌, ◌<◌, List, [], ◌∷◌, ◌++◌, length, take, drop, get_or, replicate, if◌then◌else◌, true, false, refl, sym, ap, ◌∙◌, subst, arith, add-one, drop-cons, append-nil}
use Rattle.std.proofs.Math.Seq.{take-suc}
use Rattle.std.proofs.lemmas.Bool.Decides.{eqb_tells}
use Rattle.sms_driver.specs.Deals.{cons_at, dealt, next, onto}

pub length-cons_at : {X : Type 0} (ls : List (List X)) (w : ℕ) (x : X) → length (cons_at ls w x) ≡ length ls
length-cons_at [] w x = refl
length-cons_at (l ∷ ls) zero x = refl
length-cons_at (l ∷ ls) (suc w) x = ap suc (length-cons_at ls w x)

length-nils : {X : Type 0} (n : ℕ) (x : X) → length (replicate n x) ≡ n
length-nils zero x = refl
length-nils (suc n) x = ap suc (length-nils n x)

pub length-dealt : {X : Type 0} (count w : ℕ) (xs : List X) → length (dealt count w xs) ≡ count
length-dealt count w [] = length-nils count []
length-dealt count w (x ∷ xs) = length-cons_at (dealt count (next count w) xs) w x ∙ length-dealt count (next count w) xs

pub next_below : (count w : ℕ) → w < count → next count w < count
next_below count w low = ⊎_elim
    (λ (e : ((w + 1 == count) ≡ true) × (w + 1 ≡ count)). subst (λ (b : Bool). (if b then 0 else w + 1) < count) (sym e.0) (omega arith))
    (λ (e : ((w + 1 == count) ≡ false) × (w + 1 ≢ count)). subst (λ (b : Bool). (if b then 0 else w + 1) < count) (sym e.0) (let n = e.1 in omega arith))
    (eqb_tells (w + 1) count)

-- nothing more to give
pub onto_nils : {X : Type 0} (ls : List (List X)) (n : ℕ) → onto ls (replicate n []) ≡ ls
onto_nils [] n = refl
onto_nils (l ∷ ls) zero = refl
onto_nils (l ∷ ls) (suc n) = let r = onto_nils ls n in λ i. append-nil l i ∷ r i

pub nils_onto : {X : Type 0} (n : ℕ) (ds : List (List X)) → length ds ≡ n → onto (replicate n []) ds ≡ ds
nils_onto zero [] e = refl
nils_onto zero (d ∷ ds) e = absurd (omega arith)
nils_onto (suc n) [] e = absurd (omega arith)
nils_onto (suc n) (d ∷ ds) e = ap (λ r. d ∷ r) (nils_onto n ds (omega arith))

pub dealt_next : {X : Type 0} (count w i : ℕ) (xs : List X) (d : X) → i < length xs → dealt count w (drop i xs) ≡ cons_at (dealt count (next count w) (drop (i + 1) xs)) w (get_or xs i d)
dealt_next count w i xs d low = ap (dealt count w) (drop-cons xs i d low ∙ ap (λ n. get_or xs i d ∷ drop n xs) (sym (add-one i)))

pub first : {X : Type 0} (i : ℕ) (xs : List X) → i < length xs → X
first i [] low = absurd (omega arith)
first i (x ∷ xs) low = x

pub taken_more : {X : Type 0} (i : ℕ) (xs out : List X) (x d : X) → i < length xs → out ≡ take i xs → x ≡ get_or xs i d → out ++ x ∷ [] ≡ take (i + 1) xs
taken_more i xs out x d low is at = (λ j. is j ++ at j ∷ []) ∙ sym (take-suc xs i d low) ∙ ap (λ n. take n xs) (sym (add-one i))

-- one alone is dealt the whole list
pub dealt_to_one : {X : Type 0} (xs : List X) → dealt 1 0 xs ≡ xs ∷ []
dealt_to_one [] = refl
dealt_to_one (x ∷ xs) = ap (λ ls. cons_at ls 0 x) (dealt_to_one xs)
