-- What a call does to a row and to what its caller has of the account, where both are known.
use Rattle.std.proofs.Common.{◌≡◌, ◌≢◌, Bool, ℕ, zero, suc, ◌+◌, ◌<◌, ◌≤◌, List, [], ◌∷◌, length, set, Some, refl, arith, sym, ◌∙◌, ap, subst}
use Rattle.std.specs.Prelude.{slice_get, slice_index_or, map}
use Rattle.std.proofs.lemmas.List.{get_or_read, get_or-map, map-set, length-map}
use Rattle.sms_core.specs.declared.row.Row.{Row}
use Rattle.sms_core.specs.Rows.{no_row, IsBalanced}
use Rattle.sms_core.specs.RowMoves.{row_topped_up}
use Rattle.sms_core.specs.Limits.{most_topped}
use Rattle.sms_book.specs.declared.amounts.Amounts.{Amounts}
use Rattle.sms_book.specs.declared.rule.Portion.{Portion}
use Rattle.sms_book.specs.declared.rule.Entry.{Entry}
use Rattle.sms_book.specs.declared.money.Move.{Move}
use Rattle.sms_book.specs.declared.money.Move.TheVariants.{Reserve, Charge, GiveBack}
use Rattle.sms_book.specs.Portions.{amounts_at, portion_at, topped_at, row_at, no_amounts, nothing, of_worker, of_till, of_row}
use Rattle.sms_book.specs.Money.{CanMove, FitsMove, moved_row, moved_amounts}
use Rattle.atomic_table.specs.Seated.{TableId}
use Rattle.sms_book.specs.declared.rule.View.{View}
use Rattle.sms_book.specs.Name.{BookId}
use Rattle.sms_book.specs.Rule.{away}
use Rattle.sms_book.specs.Standing.{BookStands, TillStands, ShareStands}
use Rattle.sms_book.specs.Sums.{IsSmall, AreSound, AddUp, IsTotal, MovesBy, MoveBy}
use Rattle.sms_book.proofs.Totals.{no_move, moved_at, sound_set, entry_at_most}

pub row_total : (rows : List Row) (i : ℕ) → i < length rows → portion_at (map of_row rows) i ≡ of_row (row_at rows i)
row_total rows i low = get_or-map of_row rows i no_row nothing low

-- a holder has no more than the row
pub record Within (a : Portion) (r : Row) : Type 0 where
  pub topped : a.topped ≤ r.topped
  pub reserved : a.reserved ≤ r.reserved
  pub charged : a.charged ≤ r.charged
  pub returned : a.returned ≤ r.returned

pub within_row : (rows : List Row) (account : ℕ) (es : List Entry) (k : ℕ) (ps : List Portion) → account < length rows → slice_get es k ≡ Some (away ps) → AddUp (map of_row rows) es → Within (portion_at ps account) (row_at rows account)
within_row rows account es k ps within entry sums =
    let was : IsTotal (of_row (row_at rows account)) account es = subst (λ (p : Portion). IsTotal p account es) (row_total rows account within) (sums account) in
    record {
      topped = let e = entry_at_most (λ x. x.topped) account es k ps entry in let w = was.topped in omega arith;
      reserved = let e = entry_at_most (λ x. x.reserved) account es k ps entry in let w = was.reserved in omega arith;
      charged = let e = entry_at_most (λ x. x.charged) account es k ps entry in let w = was.charged in omega arith;
      returned = let e = entry_at_most (λ x. x.returned) account es k ps entry in let w = was.returned in omega arith;
    }

pub worker_at : (a : List Amounts) (i : ℕ) → i < length a → portion_at (map of_worker a) i ≡ of_worker (amounts_at a i)
worker_at a i low = get_or-map of_worker a i no_amounts nothing low

till_at : (t : List ℕ) (i : ℕ) → i < length t → portion_at (map of_till t) i ≡ of_till (topped_at t i)
till_at t i low = get_or-map of_till t i 0 nothing low

can_turn : (what : Move) (n : ℕ) (r : Row) (a : Amounts) → (what ≡ Reserve → CanMove what n r) → (what ≢ Reserve → n ≤ a.reserved) → Within (of_worker a) r → IsBalanced r → IsSmall r
    → CanMove what n r × FitsMove what n a
can_turn Reserve n r a can holds part law small = let c = can refl in let p = part.reserved in (c, omega arith)
can_turn Charge n r a can holds part law small =
    let h : n ≤ a.reserved = holds (λ e. cc) in let p = part.reserved in let q = part.charged in ((omega arith, omega arith), (h, omega arith))
can_turn GiveBack n r a can holds part law small =
    let h : n ≤ a.reserved = holds (λ e. cc) in let p = part.reserved in let q = part.returned in ((omega arith, omega arith, omega arith), (h, omega arith))

-- a row becomes another as a portion does, and is balanced and small
record MovesRow (had new : Portion) (was is : Row) : Type 0 where
  by : MovesBy had new (of_row was) (of_row is)
  balanced : IsBalanced is
  small : IsSmall is

turned : (what : Move) (n : ℕ) (r : Row) (a : Amounts) → CanMove what n r → FitsMove what n a → IsBalanced r → IsSmall r → MovesRow (of_worker a) (of_worker (moved_amounts what n a)) r (moved_row what n r)
turned Reserve n r a can fits law small = record {
  by = record { topped = omega arith; reserved = omega arith; charged = omega arith; returned = omega arith };
  balanced = omega arith;
  small = (omega arith, omega arith);
}
turned Charge n r a can fits law small = record {
  by = record { topped = omega arith; reserved = omega arith; charged = omega arith; returned = omega arith };
  balanced = omega arith;
  small = (omega arith, omega arith);
}
turned GiveBack n r a can fits law small = record {
  by = record { topped = omega arith; reserved = omega arith; charged = omega arith; returned = omega arith };
  balanced = omega arith;
  small = (omega arith, omega arith);
}

-- an account's row and a holder's portion of it change together
change_of : (rows : List Row) (account : ℕ) (a : List Portion) (r : Row) (x : Portion) → account < length rows → length a ≡ length rows → MovesBy (portion_at a account) x (of_row (row_at rows account)) (of_row r)
    → MoveBy a (set a account x) (map of_row rows) (map of_row (set rows account r))
change_of rows account a r x within wide by =
    subst (λ (l : List Portion). MoveBy a (set a account x) (map of_row rows) l) (sym (map-set of_row rows account r))
    (moved_at a (map of_row rows) account x (of_row r) (omega arith) (let l = length-map rows of_row in omega arith) (rw (row_total rows account within) by))

-- What a worker's call may rest on, and what it leaves
pub record Settles (rows : List Row) (a : List Amounts) (account : ℕ) (what : Move) (n : ℕ) (r : Row) (h : Amounts) : Type 0 where
  pub can : CanMove what n r
  pub fits : FitsMove what n h
  pub sound : AreSound (set rows account (moved_row what n r))
  pub moves : MoveBy (map of_worker a) (map of_worker (set a account (moved_amounts what n h))) (map of_row rows) (map of_row (set rows account (moved_row what n r)))

-- where a share holds something of an account, it has the account
has_account : (a : List Amounts) (account n : ℕ) → 0 < n → n ≤ (amounts_at a account).reserved → account < length a
has_account [] account n some holds = absurd (omega arith)
has_account (x ∷ a) zero n some holds = omega arith
has_account (x ∷ a) (suc account) n some holds = let rest = has_account a account n some holds in omega arith

-- a worker's call is of an account of the book
pub in_book : {name : BookId} {table seat other : TableId} {vs ws : List View} {w : ℕ} {rows : List Row} {a : List Amounts} (i : BookStands name table seat vs w rows) (s : ShareStands name other ws a)
    (account : ℕ) (what : Move) (n : ℕ) → (what ≡ Reserve → (account < length rows) × CanMove what n (row_at rows account)) → (what ≢ Reserve → (0 < n) × (n ≤ (amounts_at a account).reserved))
    → account < length rows
in_book i s account Reserve n can holds = (can refl).0
in_book {a = a} i s account Charge n can holds =
    let h : (0 < n) × (n ≤ (amounts_at a account).reserved) = holds (λ e. cc) in let low = has_account a account n h.0 h.1 in let e = s.accounts in let f = i.accounts in omega arith
in_book {a = a} i s account GiveBack n can holds =
    let h : (0 < n) × (n ≤ (amounts_at a account).reserved) = holds (λ e. cc) in let low = has_account a account n h.0 h.1 in let e = s.accounts in let f = i.accounts in omega arith

-- a worker's call, where the book's entry of the share is known
pub settled : {name : BookId} {table seat other : TableId} {vs ws : List View} {w : ℕ} {rows : List Row} {a : List Amounts} (i : BookStands name table seat vs w rows) (s : ShareStands name other ws a)
    (account : ℕ) (what : Move) (n : ℕ) (r : Row) (h : Amounts) → slice_get i.entries s.number ≡ Some (away (map of_worker a)) → AddUp (map of_row rows) i.entries
    → r ≡ slice_index_or rows account r → h ≡ slice_index_or a account h → (what ≡ Reserve → (account < length rows) × CanMove what n (row_at rows account)) → (what ≢ Reserve → (0 < n) × (n ≤ (amounts_at a account).reserved))
    → Settles rows a account what n r h
settled {rows = rows} {a = a} i s account what n r h entry sums is-r is-h can holds =
    let within : account < length rows = in_book i s account what n can holds in
    let wide : length a ≡ length rows = s.accounts ∙ sym i.accounts in
    let row : r ≡ row_at rows account = get_or_read rows account r within is-r no_row in
    let had : h ≡ amounts_at a account = get_or_read a account h (omega arith) is-h no_amounts in
    let at : portion_at (map of_worker a) account ≡ of_worker h = worker_at a account (omega arith) ∙ ap of_worker (sym had) in
    let part : Within (of_worker h) r = subst (λ (x : Portion × Row). Within x.0 x.1) (λ j. (at j, sym row j)) (within_row rows account i.entries s.number (map of_worker a) within entry sums) in
    let law : IsBalanced r × IsSmall r = rw row (i.sound account within) in
    let both = can_turn what n r h (λ e. rw row (can e).1) (λ ne. rw had (holds ne).1) part law.0 law.1 in
    let moves = turned what n r h both.0 both.1 law.0 law.1 in
    let by : MovesBy (portion_at (map of_worker a) account) (of_worker (moved_amounts what n h)) (of_row (row_at rows account)) (of_row (moved_row what n r)) =
    subst (λ (x : Portion × Row). MovesBy x.0 (of_worker (moved_amounts what n h)) (of_row x.1) (of_row (moved_row what n r))) (λ j. (sym at j, row j)) moves.by in
    record {
      can = both.0;
      fits = both.1;
      sound = sound_set rows account (moved_row what n r) within i.sound moves.balanced moves.small;
      moves = subst (λ (l : List Portion). MoveBy (map of_worker a) l (map of_row rows) (map of_row (set rows account (moved_row what n r)))) (sym (map-set of_worker a account (moved_amounts what n h)))
          (change_of rows account (map of_worker a) (moved_row what n r) (of_worker (moved_amounts what n h)) within (length-map a of_worker ∙ wide) by);
    }

topped_with : (n : ℕ) (r : Row) (t : ℕ) → r.topped + n ≤ most_topped → IsBalanced r → IsSmall r → MovesRow (of_till t) (of_till (t + n)) r (row_topped_up n r)
topped_with n r t can law small = record {
  by = record { topped = omega arith; reserved = omega arith; charged = omega arith; returned = omega arith };
  balanced = omega arith;
  small = (omega arith, omega arith);
}

-- What a top-up may rest on, and what it leaves
pub record TopsUp (rows : List Row) (t : List ℕ) (account n : ℕ) (r : Row) (h : ℕ) : Type 0 where
  pub topped : r.topped + n ≤ most_topped
  pub free : r.free + n ≤ most_topped
  pub had : h + n ≤ most_topped
  pub sound : AreSound (set rows account (row_topped_up n r))
  pub moves : MoveBy (map of_till t) (map of_till (set t account (h + n))) (map of_row rows) (map of_row (set rows account (row_topped_up n r)))

-- a top-up, where the book's entry of the till is known
pub topped : {sealed : Bool} {name : BookId} {table seat other : TableId} {vs ws : List View} {w : ℕ} {rows : List Row} {t : List ℕ} (i : BookStands name table seat vs w rows) (s : TillStands sealed name other ws t)
    (account n : ℕ) (r : Row) (h : ℕ) → slice_get i.entries 0 ≡ Some (away (map of_till t)) → AddUp (map of_row rows) i.entries
    → account < length rows → r ≡ slice_index_or rows account r → h ≡ slice_index_or t account h → (row_at rows account).topped + n ≤ most_topped
    → TopsUp rows t account n r h
topped {rows = rows} {t = t} i s account n r h entry sums within is-r is-h can =
    let wide : length t ≡ length rows = s.accounts ∙ sym i.accounts in
    let row : r ≡ row_at rows account = get_or_read rows account r within is-r no_row in
    let had : h ≡ topped_at t account = get_or_read t account h (omega arith) is-h 0 in
    let at : portion_at (map of_till t) account ≡ of_till h = till_at t account (omega arith) ∙ ap of_till (sym had) in
    let part : Within (of_till h) r = subst (λ (x : Portion × Row). Within x.0 x.1) (λ j. (at j, sym row j)) (within_row rows account i.entries 0 (map of_till t) within entry sums) in
    let law : IsBalanced r × IsSmall r = rw row (i.sound account within) in
    let can' : r.topped + n ≤ most_topped = rw row can in
    let moves = topped_with n r h can' law.0 law.1 in
    let by : MovesBy (portion_at (map of_till t) account) (of_till (h + n)) (of_row (row_at rows account)) (of_row (row_topped_up n r)) =
    subst (λ (x : Portion × Row). MovesBy x.0 (of_till (h + n)) (of_row x.1) (of_row (row_topped_up n r))) (λ j. (sym at j, row j)) moves.by in
    record {
      topped = can';
      free = let p = law.0 in omega arith;
      had = let p = part.topped in omega arith;
      sound = sound_set rows account (row_topped_up n r) within i.sound moves.balanced moves.small;
      moves = subst (λ (l : List Portion). MoveBy (map of_till t) l (map of_row rows) (map of_row (set rows account (row_topped_up n r)))) (sym (map-set of_till t account (h + n)))
          (change_of rows account (map of_till t) (row_topped_up n r) (of_till (h + n)) within (length-map t of_till ∙ wide) by);
    }

-- what a look tells
pub seen_row : {name : BookId} {table seat other : TableId} {vs ws : List View} {w : ℕ} {rows : List Row} {a : List Amounts} (i : BookStands name table seat vs w rows) (s : ShareStands name other ws a) (account : ℕ) (r : Row)
    → slice_get i.entries s.number ≡ Some (away (map of_worker a)) → AddUp (map of_row rows) i.entries → account < length rows → r ≡ slice_index_or rows account r
    → ((amounts_at a account).reserved ≤ r.reserved) × ((amounts_at a account).charged ≤ r.charged) × ((amounts_at a account).returned ≤ r.returned)
seen_row {rows = rows} {a = a} i s account r entry sums within is-r =
    let wide : length a ≡ length rows = s.accounts ∙ sym i.accounts in
    let row : r ≡ row_at rows account = get_or_read rows account r within is-r no_row in
    let at : portion_at (map of_worker a) account ≡ of_worker (amounts_at a account) = worker_at a account (omega arith) in
    let part : Within (of_worker (amounts_at a account)) r = subst (λ (x : Portion × Row). Within x.0 x.1) (λ j. (at j, sym row j)) (within_row rows account i.entries s.number (map of_worker a) within entry sums) in
    (part.reserved, part.charged, part.returned)

-- a look moves nothing
pub still : (a : List Portion) (ts : List Portion) → MoveBy a a ts ts
still a ts = (refl, λ i. no_move (portion_at a i) (portion_at ts i))
