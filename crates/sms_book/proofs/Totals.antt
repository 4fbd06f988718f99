-- What a change of one share's amounts does to the sums.
use Rattle.std.proofs.Common.{◌≡◌, ℕ, zero, suc, ◌+◌, ◌<◌, ◌≤◌, List, [], ◌∷◌, length, map, set, Some, refl, sym, ap, ◌∙◌, subst, replicate, arith, length-set, Bool, true, false}
use Rattle.std.specs.Prelude.{if◌then◌else◌}
use Rattle.std.specs.Prelude.{slice_get}
use Rattle.std.proofs.lemmas.List.{get_or-set_same, get_or-set_other}
use native.Mathlib.Decide.{ℕ_discrete}
use Rattle.sms_book.specs.declared.rule.Portion.{Portion}
use Rattle.sms_core.specs.declared.row.Row.{Row}
use Rattle.sms_book.specs.declared.rule.Entry.{Entry}
use Rattle.sms_book.specs.Rule.{away, at_home, opening_entries, AllAway}
use Rattle.sms_core.specs.Rows.{no_row, IsBalanced}
use Rattle.sms_book.specs.Portions.{portion_at, row_at, nothing, of_till}
use Rattle.sms_book.specs.Sums.{total, AreSound, IsSmall, AddUp, MovesBy, MoveBy}

-- one amount of an account, over the entries whose number is with the book
abbrev pub kept : (Portion → ℕ) → ℕ → List Entry → ℕ
kept f i [] = 0
kept f i (e ∷ es) = (if e.here then f (portion_at e.portions i) else 0) + kept f i es

abbrev pub one_if : Bool → ℕ
one_if true = 1
one_if false = 0

-- how many numbers are with the book
abbrev pub count_here : List Entry → ℕ
count_here [] = 0
count_here (e ∷ es) = one_if e.here + count_here es

pub total_set : (f : Portion → ℕ) (i : ℕ) (es : List Entry) (k : ℕ) (a b : List Portion) → slice_get es k ≡ Some (away a)
    → total f i (set es k (away b)) + f (portion_at a i) ≡ total f i es + f (portion_at b i)
total_set f i [] k a b e = absurd (cc)
total_set f i (x ∷ es) zero a b e =
    let same : x ≡ away a = cc in
    let here : f (portion_at x.portions i) ≡ f (portion_at a i) = ap (λ (y : Entry). f (portion_at y.portions i)) same in
    omega arith
total_set f i (x ∷ es) (suc k) a b e = let rest = total_set f i es k a b e in omega arith

-- nothing moves
pub no_move : (p t : Portion) → MovesBy p p t t
no_move p t = record { topped = refl; reserved = refl; charged = refl; returned = refl }

-- a change of one account's portion, and of its total by as much
pub moved_at : (had ts : List Portion) (account : ℕ) (x u : Portion) → account < length had → account < length ts → MovesBy (portion_at had account) x (portion_at ts account) u → MoveBy had (set had account x) ts (set ts account u)
moved_at had ts account x u low within by = (length-set ts account u, λ i. by_place i (ℕ_discrete i account))
  where
    by_place : (i : ℕ) → Dec (i ≡ account) → MovesBy (portion_at had i) (portion_at (set had account x) i) (portion_at ts i) (portion_at (set ts account u) i)
    by_place i (yes is) = subst (λ (j : ℕ). MovesBy (portion_at had j) (portion_at (set had account x) j) (portion_at ts j) (portion_at (set ts account u) j)) (sym is)
        (rw (get_or-set_same had account x nothing low, get_or-set_same ts account u nothing within) by)
    by_place i (no ne) = rw (get_or-set_other had account i x nothing ne, get_or-set_other ts account i u nothing ne) (no_move (portion_at had i) (portion_at ts i))

-- a row that changes
pub sound_set : (rows : List Row) (account : ℕ) (row : Row) → account < length rows → AreSound rows → IsBalanced row → IsSmall row → AreSound (set rows account row)
sound_set rows account row within all balanced small i bound = by_place (ℕ_discrete i account)
  where
    by_place : Dec (i ≡ account) → IsBalanced (row_at (set rows account row) i) × IsSmall (row_at (set rows account row) i)
    by_place (yes is) = subst (λ (j : ℕ). IsBalanced (row_at (set rows account row) j) × IsSmall (row_at (set rows account row) j)) (sym is) (rw (get_or-set_same rows account row no_row within) (balanced, small))
    by_place (no ne) = rw (get_or-set_other rows account i row no_row ne) (all i (let l = length-set rows account row in omega arith))

-- an entry is at most the sum
pub entry_at_most : (f : Portion → ℕ) (i : ℕ) (es : List Entry) (k : ℕ) (a : List Portion) → slice_get es k ≡ Some (away a) → f (portion_at a i) ≤ total f i es
entry_at_most f i [] k a e = absurd (cc)
entry_at_most f i (x ∷ es) zero a e =
    let same : x ≡ away a = cc in
    let here : f (portion_at x.portions i) ≡ f (portion_at a i) = ap (λ (y : Entry). f (portion_at y.portions i)) same in
    omega arith
entry_at_most f i (x ∷ es) (suc k) a e = let rest = entry_at_most f i es k a e in omega arith

-- what gathering one share does
pub total_home : (f : Portion → ℕ) (i : ℕ) (es : List Entry) (k : ℕ) (a : List Portion) → slice_get es k ≡ Some (away a) → total f i (set es k (at_home a)) ≡ total f i es
total_home f i [] k a e = absurd (cc)
total_home f i (x ∷ es) zero a e =
    let same : x ≡ away a = cc in
    let here : f (portion_at x.portions i) ≡ f (portion_at a i) = ap (λ (y : Entry). f (portion_at y.portions i)) same in
    omega arith
total_home f i (x ∷ es) (suc k) a e = let rest = total_home f i es k a e in omega arith

-- Entries with the same sums have the same totals
adds_as : (ts : List Portion) (es fs : List Entry) → ((f : Portion → ℕ) (i : ℕ) → total f i es ≡ total f i fs) → AddUp ts es → AddUp ts fs
adds_as ts es fs same adds i = let a = adds i in
    record { topped = a.topped ∙ same (λ p. p.topped) i; reserved = a.reserved ∙ same (λ p. p.reserved) i; charged = a.charged ∙ same (λ p. p.charged) i; returned = a.returned ∙ same (λ p. p.returned) i }

pub adds_home : (ts : List Portion) (es : List Entry) (k : ℕ) (a : List Portion) → slice_get es k ≡ Some (away a) → AddUp ts es → AddUp ts (set es k (at_home a))
adds_home ts es k a e = adds_as ts es (set es k (at_home a)) (λ f i. sym (total_home f i es k a e))

pub adds_lent : (ts : List Portion) (es : List Entry) (k : ℕ) (a : List Portion) → slice_get es k ≡ Some (away a) → AddUp ts (set es k (at_home a)) → AddUp ts es
adds_lent ts es k a e = adds_as ts (set es k (at_home a)) es (λ f i. total_home f i es k a e)

-- a number that goes out for the first time takes its portions along
pub total_out : (f : Portion → ℕ) (i : ℕ) (es : List Entry) (k : ℕ) (a : List Portion) → slice_get es k ≡ Some (at_home a) → total f i (set es k (away a)) ≡ total f i es
total_out f i [] k a e = absurd (cc)
total_out f i (x ∷ es) zero a e =
    let same : x ≡ at_home a = cc in
    let here : f (portion_at x.portions i) ≡ f (portion_at a i) = ap (λ (y : Entry). f (portion_at y.portions i)) same in
    omega arith
total_out f i (x ∷ es) (suc k) a e = let rest = total_out f i es k a e in omega arith

pub adds_out : (ts : List Portion) (es : List Entry) (k : ℕ) (a : List Portion) → slice_get es k ≡ Some (at_home a) → AddUp ts es → AddUp ts (set es k (away a))
adds_out ts es k a e = adds_as ts es (set es k (away a)) (λ f i. sym (total_out f i es k a e))

-- an entry and the totals that move by as much
pub adds_moved : (ts us : List Portion) (es : List Entry) (k : ℕ) (a b : List Portion) → slice_get es k ≡ Some (away a) → MoveBy a b ts us → AddUp ts es → AddUp us (set es k (away b))
adds_moved ts us es k a b e by adds i =
    let m = by.1 i in
    let was = adds i in
    record {
      topped = let t = total_set (λ p. p.topped) i es k a b e in let p = m.topped in let q = was.topped in omega arith;
      reserved = let t = total_set (λ p. p.reserved) i es k a b e in let p = m.reserved in let q = was.reserved in omega arith;
      charged = let t = total_set (λ p. p.charged) i es k a b e in let p = m.charged in let q = was.charged in omega arith;
      returned = let t = total_set (λ p. p.returned) i es k a b e in let p = m.returned in let q = was.returned in omega arith;
    }

-- the workers of a new book have nothing
nothing_at : (n i : ℕ) → portion_at (replicate n nothing) i ≡ nothing
nothing_at zero i = refl
nothing_at (suc n) zero = refl
nothing_at (suc n) (suc i) = nothing_at n i

total_nothing : (f : Portion → ℕ) (i n w : ℕ) → f nothing ≡ 0 → total f i (replicate w (at_home (replicate n nothing))) ≡ 0
total_nothing f i n zero e = refl
total_nothing f i n (suc w) e =
    let rest = total_nothing f i n w e in
    let here : f (portion_at (replicate n nothing) i) ≡ 0 = ap f (nothing_at n i) ∙ e in
    omega arith

pub adds_opening : (credits : List ℕ) (workers : ℕ) → AddUp (map of_till credits) (opening_entries credits workers)
adds_opening credits workers i = record {
  topped = let n = total_nothing (λ p. p.topped) i (length credits) workers refl in omega arith;
  reserved = let n = total_nothing (λ p. p.reserved) i (length credits) workers refl in omega arith;
  charged = let n = total_nothing (λ p. p.charged) i (length credits) workers refl in omega arith;
  returned = let n = total_nothing (λ p. p.returned) i (length credits) workers refl in omega arith;
}

pub kept_home : (f : Portion → ℕ) (i : ℕ) (es : List Entry) (k : ℕ) (a : List Portion) → slice_get es k ≡ Some (away a) → kept f i (set es k (at_home a)) ≡ f (portion_at a i) + kept f i es
kept_home f i [] k a e = absurd (cc)
kept_home f i (x ∷ es) zero a e =
    let same : x ≡ away a = cc in
    let none : (if x.here then f (portion_at x.portions i) else 0) ≡ 0 = ap (λ (y : Entry). if y.here then f (portion_at y.portions i) else 0) same in
    omega arith
kept_home f i (x ∷ es) (suc k) a e = let rest = kept_home f i es k a e in omega arith

pub count_home : (es : List Entry) (k : ℕ) (a : List Portion) → slice_get es k ≡ Some (away a) → count_here (set es k (at_home a)) ≡ 1 + count_here es
count_home [] k a e = absurd (cc)
count_home (x ∷ es) zero a e =
    let same : x ≡ away a = cc in
    let none : one_if x.here ≡ 0 = ap (λ (y : Entry). one_if y.here) same in
    omega arith
count_home (x ∷ es) (suc k) a e = let rest = count_home es k a e in omega arith

pub one_if_most : (b : Bool) → one_if b ≤ 1
one_if_most true = omega arith
one_if_most false = omega arith

pub count_at_most : (es : List Entry) → count_here es ≤ length es
count_at_most [] = omega arith
count_at_most (e ∷ es) = let rest = count_at_most es in let one = one_if_most e.here in omega arith

by_here : (b : Bool) (n x t c l : ℕ) → c ≤ l → (c ≡ l → n ≡ t) → one_if b + c ≡ suc l → (if b then x else 0) + n ≡ x + t
by_here true n x t c l most rest e = let r : n ≡ t = rest (omega arith) in omega arith
by_here false n x t c l most rest e = absurd (omega arith)

-- where each number is with the book, what the book keeps is the whole
pub all_home : (f : Portion → ℕ) (i : ℕ) (es : List Entry) → count_here es ≡ length es → kept f i es ≡ total f i es
all_home f i [] e = refl
all_home f i (x ∷ es) e = by_here x.here (kept f i es) (f (portion_at x.portions i)) (total f i es) (count_here es) (length es) (count_at_most es) (λ h. all_home f i es h) e

pub none_kept : (f : Portion → ℕ) (i : ℕ) (es : List Entry) → AllAway es → kept f i es ≡ 0
none_kept f i [] a = refl
none_kept f i (e ∷ es) a = let rest = none_kept f i es a.1 in rw a.0 (omega arith)

pub none_counted : (es : List Entry) → AllAway es → count_here es ≡ 0
none_counted [] a = refl
none_counted (e ∷ es) a = let rest = none_counted es a.1 in rw a.0 (omega arith)

pub AllAway-set : (es : List Entry) (k : ℕ) (a : List Portion) → AllAway es → AllAway (set es k (away a))
AllAway-set [] k a h = tt
AllAway-set (e ∷ es) zero a h = (refl, h.1)
AllAway-set (e ∷ es) (suc k) a h = (h.0, AllAway-set es k a h.1)
