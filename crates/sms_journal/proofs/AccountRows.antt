-- The rows of accounts with one part more.
use Rattle.std.proofs.Common.{◌≡◌, ◌∙◌, ◌≤◌, ◌<◌, sym, refl, ap, ℕ, zero, suc, ◌+◌, ◌-◌, Bool, true, false, List, [], ◌∷◌, ◌++◌, length, length-append, Some, None, subst, get_or, arith}
use Rattle.std.specs.Prelude.{Option, slice_get, slice_set, ◌==◌, ◌&&◌, nat_le, if◌then◌else◌}
use Rattle.std.proofs.lemmas.Bool.{eqb-true, eqb-false, eq-eqb}
use Rattle.std.proofs.lemmas.Bool.Decides.{nat_tests}
use Rattle.sms_book.specs.declared.opening.Opening.{Opening}
use Rattle.sms_core.specs.declared.request.Phase.{Phase}
use Rattle.sms_core.specs.declared.row.Row.{Row}
use Rattle.sms_core.specs.Rows.{Entry, IsBalanced, charged_of, over, reserved_of, returned_of, row_of}
use Rattle.sms_core.proofs.AccountSums.{over-cons}
use Rattle.sms_message.specs.declared.ends.Outcome.{Outcome}
use Rattle.sms_message.specs.Ends.{phase_of}
use Rattle.sms_files.proofs.Lists.{get_set_else, get_set_here}
use Rattle.sms_journal.specs.Stages.{AreRowsOf, IsAdded, covers, entry_of, grown, is_covered, opened, row_with}

inside : {A : Type 0} (a b : A) → Some a ≡ Some b → a ≡ b
inside a b e = cc

-- ---- sums

its_part : (f : Phase → ℕ → ℕ) (a cost : ℕ) (o : Outcome) (es : List Entry) → over f a (entry_of a cost o ∷ es) ≡ f (phase_of o) cost + over f a es
its_part f a cost o es = over-cons f a (entry_of a cost o) es ∙ ap (λ b. (if b then f (phase_of o) cost else 0) + over f a es) (eq-eqb a a refl)

other_part : (f : Phase → ℕ → ℕ) (i a cost : ℕ) (o : Outcome) (es : List Entry) → (a == i) ≡ false → over f i (entry_of a cost o ∷ es) ≡ over f i es
other_part f i a cost o es apart =
    let one : over f i (entry_of a cost o ∷ es) ≡ 0 + over f i es = over-cons f i (entry_of a cost o) es ∙ ap (λ b. (if b then f (phase_of o) cost else 0) + over f i es) apart in
    omega (arith, one)

same_row : (t f r c b g s d e : ℕ) → f ≡ g → r ≡ s → c ≡ d → b ≡ e
    → record { topped = t; free = f; reserved = r; charged = c; returned = b } ≡ (let row : Row = record { topped = t; free = g; reserved = s; charged = d; returned = e } in row)
same_row t f r c b g s d e p q u v = λ j. record { topped = t; free = p j; reserved = q j; charged = u j; returned = v j }

left : (t x r y c s d : ℕ) → s ≡ x + r → d ≡ y + c → (t - s - d) ≡ (t - r - c) - (x + y)
left t x r y c s d p q = omega (arith, p, q)

-- the row with one part more
row_more : (topped a cost : ℕ) (o : Outcome) (es : List Entry) → row_of topped a (entry_of a cost o ∷ es) ≡ row_with (phase_of o) cost (row_of topped a es)
row_more topped a cost o es =
    let r = its_part reserved_of a cost o es in
    let c = its_part charged_of a cost o es in
    let b = its_part returned_of a cost o es in
    let x = reserved_of (phase_of o) cost in
    let y = charged_of (phase_of o) cost in
    let z = returned_of (phase_of o) cost in
    same_row topped (topped - over reserved_of a (entry_of a cost o ∷ es) - over charged_of a (entry_of a cost o ∷ es)) (over reserved_of a (entry_of a cost o ∷ es)) (over charged_of a (entry_of a cost o ∷ es))
    (over returned_of a (entry_of a cost o ∷ es)) ((topped - over reserved_of a es - over charged_of a es) - (x + y)) (over reserved_of a es + x) (over charged_of a es + y) (over returned_of a es + z)
    (left topped x (over reserved_of a es) y (over charged_of a es) (over reserved_of a (entry_of a cost o ∷ es)) (over charged_of a (entry_of a cost o ∷ es)) r c) (omega (arith, r)) (omega (arith, c)) (omega (arith, b))

row_kept : (topped i a cost : ℕ) (o : Outcome) (es : List Entry) → (a == i) ≡ false → row_of topped i es ≡ row_of topped i (entry_of a cost o ∷ es)
row_kept topped i a cost o es apart =
    let r = other_part reserved_of i a cost o es apart in
    let c = other_part charged_of i a cost o es apart in
    let b = other_part returned_of i a cost o es apart in
    λ j. record { topped = topped; free = topped - sym r j - sym c j; reserved = sym r j; charged = sym c j; returned = sym b j }

-- ---- covered rows

tells : (r c t b m : ℕ) → (nat_le (r + c) t && nat_le b m) ≡ true → r + c ≤ t
tells r c t b m e = grind (arith, nat_tests)

balance : (t r c : ℕ) → r + c ≤ t → t ≡ (t - r - c) + r + c
balance t r c h = omega (arith, h)

covered_balances : (topped a : ℕ) (es : List Entry) → is_covered (row_of topped a es) ≡ true → IsBalanced (row_of topped a es)
covered_balances topped a es e =
    balance topped (over reserved_of a es) (over charged_of a es)
    (tells (over reserved_of a es) (over charged_of a es) topped (over returned_of a es) 0xFFFF_FFFF_FFFF_FFFF e)

-- what grows is covered
grows : (row new : Row) (phase : Phase) (cost : ℕ) → Some new ≡ grown phase cost row → (is_covered (row_with phase cost row) ≡ true) × (new ≡ row_with phase cost row)
grows row new phase cost e = by (is_covered (row_with phase cost row)) refl
  where
    by : (t : Bool) → is_covered (row_with phase cost row) ≡ t → (is_covered (row_with phase cost row) ≡ true) × (new ≡ row_with phase cost row)
    by true p = let it : Some new ≡ Some (row_with phase cost row) = rw p at e in (p, inside new (row_with phase cost row) it)
    by false p = let none : Some new ≡ None = rw p at e in absurd (cc)

stays : (row : Row) (phase : Phase) (cost : ℕ) → None ≡ grown phase cost row → is_covered (row_with phase cost row) ≡ false
stays row phase cost e = by (is_covered (row_with phase cost row)) refl
  where
    by : (t : Bool) → is_covered (row_with phase cost row) ≡ t → is_covered (row_with phase cost row) ≡ false
    by true p = let some : None ≡ Some (row_with phase cost row) = rw p at e in absurd (cc)
    by false p = p

-- ---- rows of all accounts

no_parts : (topped i : ℕ) → record { topped = topped; free = topped; reserved = 0; charged = 0; returned = 0 } ≡ row_of topped i []
no_parts topped i = same_row topped topped 0 0 0 (topped - 0 - 0) 0 0 0 (omega arith) refl refl refl

-- the rows of the first accounts, of which no part is known
pub record AreOpened (openings : List Opening) (rows : List Row) (k : ℕ) : Type 0 where
  pub each : (i : ℕ) (o : Opening) → i < k → slice_get openings i ≡ Some o → slice_get rows i ≡ Some (row_of o.credits i [])
  pub count : length rows ≡ k
  pub within : k ≤ length openings

pub none_opened : (openings : List Opening) (rows : List Row) → rows ≡ [] → AreOpened openings rows 0
none_opened openings rows e = record { each = λ i o low found. absurd (omega (arith, low)); count = ap length e; within = omega arith }

got_here : (rows : List Row) (k : ℕ) (row : Row) → length rows ≡ k → slice_get (rows ++ row ∷ []) k ≡ Some row
got_here [] zero row e = refl
got_here [] (suc k) row e = absurd (omega (arith, e))
got_here (r ∷ rs) zero row e = absurd (omega (arith, e))
got_here (r ∷ rs) (suc k) row e = got_here rs k row (omega (arith, e))

got_before : (rows : List Row) (i : ℕ) (row other : Row) → slice_get rows i ≡ Some other → slice_get (rows ++ row ∷ []) i ≡ Some other
got_before [] i row other e = absurd (cc)
got_before (r ∷ rs) zero row other e = e
got_before (r ∷ rs) (suc i) row other e = got_before rs i row other e

at_place : {A : Type 0} (xs : List A) (i : ℕ) (x y : A) → slice_get xs i ≡ Some y → x ≡ get_or xs i x → x ≡ y
at_place [] i x y e is = absurd (cc)
at_place (z ∷ xs) zero x y e is = let same : z ≡ y = inside z y e in is ∙ same
at_place (z ∷ xs) (suc i) x y e is = at_place xs i x y e is

none_at : {A : Type 0} (xs : List A) (i : ℕ) → length xs ≤ i → slice_get xs i ≡ None
none_at [] i h = refl
none_at (x ∷ xs) zero h = absurd (omega (arith, h))
none_at (x ∷ xs) (suc i) h = none_at xs i (omega (arith, h))

no_some : {A : Type 0} (xs : List A) (i : ℕ) → slice_get xs i ≡ None → length xs ≤ i
no_some [] i e = omega arith
no_some (x ∷ xs) zero e = absurd (cc)
no_some (x ∷ xs) (suc i) e = let rest = no_some xs i e in omega (arith, rest)

below : {A : Type 0} (xs : List A) (i : ℕ) (y : A) → slice_get xs i ≡ Some y → i < length xs
below [] i y e = absurd (cc)
below (x ∷ xs) zero y e = omega arith
below (x ∷ xs) (suc i) y e = let rest = below xs i y e in omega (arith, rest)

pub one_opened : (openings : List Opening) (rows news : List Row) (k : ℕ) (o : Opening) (row : Row) → k < length openings → o ≡ get_or openings k o → row ≡ opened o.credits → news ≡ rows ++ row ∷ []
    → AreOpened openings rows k → AreOpened openings news (k + 1)
one_opened openings rows news k o row low is its grows are = record {
  each = λ i other before e. by i other before e (k == i) refl;
  count = let long = length-append rows (row ∷ []) in let count = are.count in let same : length news ≡ length (rows ++ row ∷ []) = ap length grows in omega (arith, long, count, same);
  within = omega (arith, low);
}
  where
    by : (i : ℕ) (other : Opening) → i < k + 1 → slice_get openings i ≡ Some other → (t : Bool) → (k == i) ≡ t → slice_get news i ≡ Some (row_of other.credits i [])
    by i other before e true p =
        let same : k ≡ i = eqb-true k i p in
        let one : o ≡ other = at_place openings k o other (ap (slice_get openings) same ∙ e) is in
        let here : slice_get news k ≡ Some row = ap (λ (rs : List Row). slice_get rs k) grows ∙ got_here rows k row are.count in
        let row_is : row ≡ row_of o.credits k [] = its ∙ no_parts o.credits k in
        subst (λ (j : ℕ). slice_get news j ≡ Some (row_of other.credits j [])) same
        (subst (λ (oo : Opening). slice_get news k ≡ Some (row_of oo.credits k [])) one (here ∙ ap (λ (r : Row). Some r) row_is))
    by i other before e false p =
        let apart = eqb-false k i p in
        let lower : i < k = omega (arith, before, apart) in
        ap (λ (rs : List Row). slice_get rs i) grows ∙ got_before rows i row (row_of other.credits i []) (are.each i other lower e)

pub all_opened : (openings : List Opening) (rows : List Row) (k : ℕ) → length openings ≤ k → AreOpened openings rows k → AreRowsOf openings [] rows
all_opened openings rows k high are = record {
  each = λ i o e. are.each i o (let low = below openings i o e in omega (arith, low, high)) e;
  balanced = λ i o e. omega arith;
  none = λ i e. none_at rows i (let long = no_some openings i e in let count = are.count in let within = are.within in omega (arith, long, count, within));
}

-- an account that has no row hasn't opened
pub without_row : (openings : List Opening) (entries : List Entry) (rows : List Row) (a cost : ℕ) (o : Outcome) → slice_get rows a ≡ None → AreRowsOf openings entries rows
    → IsAdded openings entries (entry_of a cost o) false rows
without_row openings entries rows a cost o none are = by (slice_get openings a) refl
  where
    by : (found : Option Opening) → slice_get openings a ≡ found → covers a (entry_of a cost o ∷ entries) (slice_get openings a) ≡ false
    by None e = rw e refl
    by (Some opening) e = let there = are.each a opening e in let no : None ≡ Some (row_of opening.credits a entries) = sym none ∙ there in absurd (cc)

-- the account lacks the credits
pub not_covered : (openings : List Opening) (entries : List Entry) (rows : List Row) (a cost : ℕ) (o : Outcome) (row : Row) → slice_get rows a ≡ Some row
    → (IsBalanced row → None ≡ grown (phase_of o) cost row) → AreRowsOf openings entries rows → IsAdded openings entries (entry_of a cost o) false rows
not_covered openings entries rows a cost o row at lacks are = by (slice_get openings a) refl
  where
    by : (found : Option Opening) → slice_get openings a ≡ found → covers a (entry_of a cost o ∷ entries) (slice_get openings a) ≡ false
    by None e = rw e refl
    by (Some opening) e =
        let is : row ≡ row_of opening.credits a entries = inside row (row_of opening.credits a entries) (sym at ∙ are.each a opening e) in
        let no = stays row (phase_of o) cost (lacks (subst IsBalanced (sym is) (are.balanced a opening e))) in
        let there : is_covered (row_of opening.credits a (entry_of a cost o ∷ entries)) ≡ false =
        ap is_covered (row_more opening.credits a cost o entries ∙ ap (row_with (phase_of o) cost) (sym is)) ∙ no in
        rw e there

-- the account has them
pub added : (openings : List Opening) (entries : List Entry) (rows news : List Row) (a cost : ℕ) (o : Outcome) (row new : Row) → slice_get rows a ≡ Some row
    → (IsBalanced row → Some new ≡ grown (phase_of o) cost row) → news ≡ slice_set rows a new → AreRowsOf openings entries rows → IsAdded openings entries (entry_of a cost o) true news
added openings entries rows news a cost o row new at has is_set are = by (slice_get openings a) refl
  where
    by : (found : Option Opening) → slice_get openings a ≡ found → IsAdded openings entries (entry_of a cost o) true news
    by None e = let no : None ≡ Some row = sym (are.none a e) ∙ at in absurd (cc)
    by (Some opening) e =
        let is : row ≡ row_of opening.credits a entries = inside row (row_of opening.credits a entries) (sym at ∙ are.each a opening e) in
        let it = grows row new (phase_of o) cost (has (subst IsBalanced (sym is) (are.balanced a opening e))) in
        let more : row_with (phase_of o) cost row ≡ row_of opening.credits a (entry_of a cost o ∷ entries) =
        sym (row_more opening.credits a cost o entries ∙ ap (row_with (phase_of o) cost) (sym is)) in
        let new_is : new ≡ row_of opening.credits a (entry_of a cost o ∷ entries) = it.1 ∙ more in
        let covered : is_covered (row_of opening.credits a (entry_of a cost o ∷ entries)) ≡ true = ap is_covered (sym more) ∙ it.0 in
        let each : (i : ℕ) (other : Opening) → slice_get openings i ≡ Some other → (slice_get news i ≡ Some (row_of other.credits i (entry_of a cost o ∷ entries))) × IsBalanced (row_of other.credits i (entry_of a cost o ∷ entries)) =
        λ i other f. all_rows opening e new_is covered i other f (a == i) refl in
        let none : (i : ℕ) → slice_get openings i ≡ None → slice_get news i ≡ None = λ i f. none_new i f in
        (rw e covered, record { each = λ i other f. (each i other f).0; balanced = λ i other f. (each i other f).1; none = none })
      where
        all_rows : (opening : Opening) → slice_get openings a ≡ Some opening → new ≡ row_of opening.credits a (entry_of a cost o ∷ entries) → is_covered (row_of opening.credits a (entry_of a cost o ∷ entries)) ≡ true
            → (i : ℕ) (other : Opening) → slice_get openings i ≡ Some other → (t : Bool) → (a == i) ≡ t
            → (slice_get news i ≡ Some (row_of other.credits i (entry_of a cost o ∷ entries))) × IsBalanced (row_of other.credits i (entry_of a cost o ∷ entries))
        all_rows opening e new_is covered i other f true p =
            let same : a ≡ i = eqb-true a i p in
            let one : opening ≡ other = inside opening other (sym e ∙ ap (slice_get openings) same ∙ f) in
            let here : slice_get news a ≡ Some (row_of opening.credits a (entry_of a cost o ∷ entries)) =
            ap (λ (rs : List Row). slice_get rs a) is_set ∙ get_set_here rows a row new at ∙ ap (λ (r : Row). Some r) new_is in
            let balanced = covered_balances opening.credits a (entry_of a cost o ∷ entries) covered in
            subst (λ (k : ℕ). (slice_get news k ≡ Some (row_of other.credits k (entry_of a cost o ∷ entries))) × IsBalanced (row_of other.credits k (entry_of a cost o ∷ entries))) same
            (subst (λ (oo : Opening). (slice_get news a ≡ Some (row_of oo.credits a (entry_of a cost o ∷ entries))) × IsBalanced (row_of oo.credits a (entry_of a cost o ∷ entries))) one (here, balanced))
        all_rows opening e new_is covered i other f false p =
            let kept = row_kept other.credits i a cost o entries p in
            (ap (λ (rs : List Row). slice_get rs i) is_set ∙ get_set_else rows a i new (eqb-false a i p) ∙ are.each i other f ∙ ap (λ (r : Row). Some r) kept, subst IsBalanced kept (are.balanced i other f))

        none_new : (i : ℕ) → slice_get openings i ≡ None → slice_get news i ≡ None
        none_new i f = by_place (a == i) refl
          where
            by_place : (t : Bool) → (a == i) ≡ t → slice_get news i ≡ None
            by_place true p = let no : None ≡ Some row = sym (are.none i f) ∙ ap (slice_get rows) (sym (eqb-true a i p)) ∙ at in absurd (cc)
            by_place false p = ap (λ (rs : List Row). slice_get rs i) is_set ∙ get_set_else rows a i new (eqb-false a i p) ∙ are.none i f
