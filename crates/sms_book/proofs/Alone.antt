-- A book with one share: what its rows have beside free credits is in that share.
use Rattle.std.proofs.Common.{◌≡◌, Bool, true, false, ℕ, zero, suc, ◌<◌, ◌≤◌, List, [], ◌∷◌, length, map, set, Some, refl, sym, ap, ◌∙◌, subst, arith, length-set}
use Rattle.std.specs.Prelude.{slice_get, slice_index_or}
use Rattle.std.proofs.lemmas.List.{get_or_read, get_or-map, get_or-set_same, get_or-set_other, length-map}
use native.Mathlib.Decide.{ℕ_discrete}
use Rattle.atomic_table.specs.Seated.{TableId}
use Rattle.sms_core.specs.declared.row.Row.{Row}
use Rattle.sms_core.specs.Rows.{no_row, IsBalanced}
use Rattle.sms_core.specs.RowMoves.{row_topped_up}
use Rattle.sms_book.specs.declared.amounts.Amounts.{Amounts}
use Rattle.sms_book.specs.declared.money.Move.{Move}
use Rattle.sms_book.specs.declared.money.Move.TheVariants.{Reserve, Charge, GiveBack}
use Rattle.sms_book.specs.declared.rule.Portion.{Portion}
use Rattle.sms_book.specs.declared.rule.Entry.{Entry}
use Rattle.sms_book.specs.declared.rule.View.{View}
use Rattle.sms_book.specs.Alone.{IsOfOne, IsOpened, AreOpened, IsOfTill, TillFirst, opening_at}
use Rattle.sms_book.specs.Money.{moved_row}
use Rattle.sms_book.specs.Name.{BookId}
use Rattle.sms_book.specs.Openings.{opening_row}
use Rattle.sms_book.specs.Portions.{amounts_at, portion_at, topped_at, row_at, of_worker, of_till, of_row}
use Rattle.sms_book.specs.Rule.{away}
use Rattle.sms_book.specs.Standing.{BookStands, ShareStands}
use Rattle.sms_book.specs.Sums.{total, AddUp, IsTotal, IsSmall}
use Rattle.sms_book.proofs.Turns.{row_total, worker_at}

-- a row that changes has as many top-ups as its account began with, or more, and in a sealed book as many
opened_set : (sealed : Bool) (opening : List ℕ) (rows : List Row) (account : ℕ) (r : Row) → account < length rows → (IsOpened sealed (topped_at opening account) (row_at rows account) → IsOpened sealed (topped_at opening account) r) → AreOpened sealed opening rows
    → AreOpened sealed opening (set rows account r)
opened_set sealed opening rows account r within keeps all i bound = by_place (ℕ_discrete i account)
  where
    by_place : Dec (i ≡ account) → IsOpened sealed (topped_at opening i) (row_at (set rows account r) i)
    by_place (yes is) = subst (λ (j : ℕ). IsOpened sealed (topped_at opening j) (row_at (set rows account r) j)) (sym is) (rw (get_or-set_same rows account r no_row within) (keeps (all account within)))
    by_place (no ne) = rw (get_or-set_other rows account i r no_row ne) (all i (let l = length-set rows account r in omega arith))

turned_topped : (what : Move) (n : ℕ) (r : Row) → (moved_row what n r).topped ≡ r.topped
turned_topped Reserve n r = refl
turned_topped Charge n r = refl
turned_topped GiveBack n r = refl

-- a row with as many top-ups as another
as_many : (sealed : Bool) (opening : ℕ) (r s : Row) → r.topped ≡ s.topped → IsOpened sealed opening r → IsOpened sealed opening s
as_many sealed opening r s same h = record { least = subst (λ (n : ℕ). opening ≤ n) same h.least; most = λ closed. subst (λ (n : ℕ). n ≤ opening) same (h.most closed) }

pub opened_turned : {name : BookId} {table seat : TableId} {vs : List View} {w : ℕ} {rows : List Row} (i : BookStands name table seat vs w rows) (account : ℕ) (what : Move) (n : ℕ) (r : Row) → account < length rows → r ≡ slice_index_or rows account r
    → AreOpened name.sealed name.opening (set rows account (moved_row what n r))
opened_turned {name = name} {rows = rows} i account what n r within is-r =
    let row : r ≡ row_at rows account = get_or_read rows account r within is-r no_row in
    let topped : (row_at rows account).topped ≡ (moved_row what n r).topped = ap (λ (x : Row). x.topped) (sym row) ∙ sym (turned_topped what n r) in
    opened_set name.sealed name.opening rows account (moved_row what n r) within (as_many name.sealed (topped_at name.opening account) (row_at rows account) (moved_row what n r) topped) i.opened

-- more top-ups, in a book that isn't sealed
pub opened_topped : {name : BookId} {table seat : TableId} {vs : List View} {w : ℕ} {rows : List Row} (i : BookStands name table seat vs w rows) (account n : ℕ) (r : Row) → name.sealed ≡ false → account < length rows → r ≡ slice_index_or rows account r
    → AreOpened name.sealed name.opening (set rows account (row_topped_up n r))
opened_topped {name = name} {rows = rows} i account n r unsealed within is-r =
    let row : r ≡ row_at rows account = get_or_read rows account r within is-r no_row in
    let was = ap (λ (x : Row). x.topped) row in
    opened_set name.sealed name.opening rows account (row_topped_up n r) within (λ h. record { least = (let low = h.least in omega arith); most = λ closed. absurd (cc) }) i.opened

pub opened-opening : (sealed : Bool) (credits : List ℕ) → AreOpened sealed credits (map opening_row credits)
opened-opening sealed credits i below =
    let low : i < length credits = let l = length-map credits opening_row in omega arith in
    let row : row_at (map opening_row credits) i ≡ opening_row (topped_at credits i) = get_or-map opening_row credits i 0 no_row low in
    let topped = ap (λ (x : Row). x.topped) row in
    record { least = omega arith; most = λ closed. omega arith }

pub till_has : (topped : List ℕ) (i : ℕ) → IsOfTill (portion_at (map of_till topped) i)
till_has [] i = record { reserved = refl; charged = refl; returned = refl }
till_has (x ∷ topped) zero = record { reserved = refl; charged = refl; returned = refl }
till_has (x ∷ topped) (suc i) = till_has topped i

-- the till's number goes out again
pub till_first : (es : List Entry) (topped : List ℕ) → TillFirst (set es 0 (away (map of_till topped)))
till_first [] topped = tt
till_first (e ∷ es) topped = till_has topped

-- a worker's does
pub till_kept : (es : List Entry) (k : ℕ) (e : Entry) → 0 < k → TillFirst es → TillFirst (set es k e)
till_kept [] k e some all = tt
till_kept (x ∷ es) zero e some all = absurd (omega arith)
till_kept (x ∷ es) (suc k) e some all = all

-- of two entries the sum is what the worker's has
one_total : (f : Portion → ℕ) (i : ℕ) (es : List Entry) (k : ℕ) (ps : List Portion) → length es ≡ 2 → 0 < k → slice_get es k ≡ Some (away ps) → TillFirst es → ((p : Portion) → IsOfTill p → f p ≡ 0) → total f i es ≡ f (portion_at ps i)
one_total f i [] k ps long some entry till none = absurd (omega arith)
one_total f i (x ∷ es) zero ps long some entry till none = absurd (omega arith)
one_total f i (x ∷ []) (suc k) ps long some entry till none = absurd (omega arith)
one_total f i (x ∷ y ∷ z ∷ es) (suc k) ps long some entry till none = absurd (omega arith)
one_total f i (x ∷ y ∷ []) (suc (suc k)) ps long some entry till none = absurd (cc)
one_total f i (x ∷ y ∷ []) (suc zero) ps long some entry till none =
    let same : y ≡ away ps = cc in
    let here : f (portion_at y.portions i) ≡ f (portion_at ps i) = ap (λ (e : Entry). f (portion_at e.portions i)) same in
    let first = none (portion_at x.portions i) (till i) in
    omega arith

-- what a look tells where there is one share
pub seen_one : {name : BookId} {table seat other : TableId} {vs ws : List View} {w : ℕ} {rows : List Row} {a : List Amounts} (i : BookStands name table seat vs w rows) (s : ShareStands name other ws a) (account : ℕ) (r : Row)
    → slice_get i.entries s.number ≡ Some (away (map of_worker a)) → AddUp (map of_row rows) i.entries → account < length rows → r ≡ slice_index_or rows account r → name.workers ≡ 1
    → IsOfOne (opening_at name account) (amounts_at a account) r
seen_one {name = name} {rows = rows} {a = a} i s account r entry sums within is-r alone =
    let wide : length a ≡ length rows = s.accounts ∙ sym i.accounts in
    let row : r ≡ row_at rows account = get_or_read rows account r within is-r no_row in
    let at : portion_at (map of_worker a) account ≡ of_worker (amounts_at a account) = worker_at a account (omega arith) in
    let was : IsTotal (of_row (row_at rows account)) account i.entries = subst (λ (p : Portion). IsTotal p account i.entries) (row_total rows account within) (sums account) in
    let two : length i.entries ≡ 2 = (let l = i.long in omega arith) in
    let law : IsBalanced r × IsSmall r = rw row (i.sound account within) in
    let opened : topped_at name.opening account ≤ (row_at rows account).topped = (i.opened account within).least in
    let topped = ap (λ (x : Row). x.topped) row in
    let sum = λ (f : Portion → ℕ) (none : (p : Portion) → IsOfTill p → f p ≡ 0). one_total f account i.entries s.number (map of_worker a) two s.worker entry i.till none ∙ ap f at in
    let reserved : r.reserved ≡ (amounts_at a account).reserved = ap (λ (x : Row). x.reserved) row ∙ was.reserved ∙ sum (λ p. p.reserved) (λ p t. t.reserved) in
    let charged : r.charged ≡ (amounts_at a account).charged = ap (λ (x : Row). x.charged) row ∙ was.charged ∙ sum (λ p. p.charged) (λ p t. t.charged) in
    let returned : r.returned ≡ (amounts_at a account).returned = ap (λ (x : Row). x.returned) row ∙ was.returned ∙ sum (λ p. p.returned) (λ p t. t.returned) in
    let balanced = law.0 in
    let small = law.1.0 in
    record { reserved = reserved; charged = charged; returned = returned; free = omega arith; small = omega arith }
