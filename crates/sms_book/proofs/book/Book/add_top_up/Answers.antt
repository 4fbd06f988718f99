use Rattle.std.proofs.Common.{◌≡◌, ℕ, ◌+◌, ◌<◌, List, [], ◌∷◌, length, sym, ap, ◌∙◌, length-set, arith}
use Rattle.std.specs.Prelude.{slice_set, map}
use Rattle.std.proofs.lemmas.List.{get_or_read}
use Rattle.sms_core.specs.declared.row.Row.{Row}
use Rattle.sms_core.specs.Rows.{no_row}
use Rattle.sms_core.specs.RowMoves.{row_topped_up}
use Rattle.sms_book.specs.declared.rule.View.TheVariants.{Book}
use Rattle.sms_book.specs.Portions.{row_at, topped_at, of_till, of_row}
use Rattle.sms_book.specs.Rule.{away}
use Rattle.sms_book.proofs.Alone.{opened_topped, till_first}
use Rattle.sms_book.proofs.Turns.{topped}
use Rattle.sms_book.proofs.Totals.{AllAway-set}
use Rattle.sms_book.proofs.book.Book.add_top_up.Goals as goal

pub overflow_add-had : goal.overflow_add-had
overflow_add-had g c =
    let i = c.self.invariant in
    let s = c.till.invariant in
    let entry = c.check_in.ensures.entry i.entries _ 0 _ i.view s.view in
    let sums = c.check_in.ensures.sums i.entries _ i.view in
    let t = topped i s c.args.account c.args.n c.index-row.result.now c.index-had.result.now entry sums (rw c.self.view_is c.requires.exists) c.index-row.ensures c.index-had.ensures (rw c.self.view_is c.requires.small) in
    let fits = t.had in omega arith

pub check_out-requires-clause-book : goal.check_out-requires-clause-book
check_out-requires-clause-book g c =
    let i = c.self.invariant in
    let s = c.till.invariant in
    let lent = c.check_in.ensures.book i.entries _ 0 _ i.view s.view in
    let entry = c.check_in.ensures.entry i.entries _ 0 _ i.view s.view in
    let sums = c.check_in.ensures.sums i.entries _ i.view in
    let t = topped i s c.args.account c.args.n c.index-row.result.now c.index-had.result.now entry sums (rw c.self.view_is c.requires.exists) c.index-row.ensures c.index-had.ensures (rw c.self.view_is c.requires.small) in
    record { entries = i.entries; had = map of_row c.self.inside.rows.items; number = 0; portions = map of_till c.till.inside.topped.items; is = lent; moves = rw (c.as_slice.ensures.value, c.as_slice-2.ensures.value) t.moves }

pub invariant_of-self : goal.invariant_of-self
invariant_of-self g c =
    let i = c.self.invariant in
    let s = c.till.invariant in
    let lent = c.check_in.ensures.book i.entries _ 0 _ i.view s.view in
    let entry = c.check_in.ensures.entry i.entries _ 0 _ i.view s.view in
    let sums = c.check_in.ensures.sums i.entries _ i.view in
    let t = topped i s c.args.account c.args.n c.index-row.result.now c.index-had.result.now entry sums (rw c.self.view_is c.requires.exists) c.index-row.ensures c.index-had.ensures (rw c.self.view_is c.requires.small) in
    let book = c.check_out.ensures.book i.entries _ 0 _ lent in
    let new = map of_till c.as_slice-2.result.now in
    let es = slice_set i.entries 0 (away new) in
    record {
      table_is = i.table_is;
      word = i.word;
      seat_is = c.check_out.ensures.table.0 ∙ c.check_in.ensures.table ∙ i.seat_is;
      accounts = length-set c.self.inside.rows.items c.args.account _ ∙ i.accounts;
      workers_are = i.workers_are;
      sound = t.sound;
      opened = opened_topped i c.args.account c.args.n c.index-row.result.now s.kind (rw c.self.view_is c.requires.exists) c.index-row.ensures;
      entries = es;
      view = book ∙ ap (λ (rows : List Row). Book es (map of_row rows) ∷ []) c.as_slice.ensures.value;
      away = AllAway-set i.entries 0 new i.away;
      long = length-set i.entries 0 (away new) ∙ i.long;
      till = till_first i.entries c.as_slice-2.result.now;
    }

pub invariant_of-till : goal.invariant_of-till
invariant_of-till g c =
    let i = c.self.invariant in
    let s = c.till.invariant in
    let lent = c.check_in.ensures.book i.entries _ 0 _ i.view s.view in
    let given = c.check_out.ensures.holder i.entries _ 0 _ lent in
    record {
      kind = s.kind;
      seat_is = c.check_out.ensures.table.1 ∙ c.check_in.ensures.table ∙ i.seat_is;
      accounts = length-set c.till.inside.topped.items c.args.account _ ∙ s.accounts;
      view = rw (← c.as_slice-2.ensures.value) given;
    }

pub overflow_add-row : goal.overflow_add-row
overflow_add-row g c =
    let i = c.self.invariant in
    let s = c.till.invariant in
    let entry = c.check_in.ensures.entry i.entries _ 0 _ i.view s.view in
    let sums = c.check_in.ensures.sums i.entries _ i.view in
    let t = topped i s c.args.account c.args.n c.index-row.result.now c.index-had.result.now entry sums (rw c.self.view_is c.requires.exists) c.index-row.ensures c.index-had.ensures (rw c.self.view_is c.requires.small) in
    let fits = t.topped in omega arith

pub overflow_add-row-2 : goal.overflow_add-row-2
overflow_add-row-2 g c =
    let i = c.self.invariant in
    let s = c.till.invariant in
    let entry = c.check_in.ensures.entry i.entries _ 0 _ i.view s.view in
    let sums = c.check_in.ensures.sums i.entries _ i.view in
    let t = topped i s c.args.account c.args.n c.index-row.result.now c.index-had.result.now entry sums (rw c.self.view_is c.requires.exists) c.index-row.ensures c.index-had.ensures (rw c.self.view_is c.requires.small) in
    let fits = t.free in omega arith

pub index-had-requires : goal.index-had-requires
index-had-requires g c =
    let w = c.till.invariant.accounts ∙ sym c.self.invariant.accounts in
    let within : c.args.account < length c.self.inside.rows.items = rw c.self.view_is c.requires.exists in
    omega arith

pub returns-clause-book : goal.returns-clause-book
returns-clause-book g c =
    let rows = c.self.inside.rows.items in
    let within : c.args.account < length rows = rw c.self.view_is c.requires.exists in
    let row : c.index-row.result.now ≡ row_at rows c.args.account = get_or_read rows c.args.account c.index-row.result.now within c.index-row.ensures no_row in
    ap (λ (r : Row). slice_set rows c.args.account (row_topped_up c.args.n r)) row ∙ ap (λ (rs : List Row). slice_set rs c.args.account (row_topped_up c.args.n (row_at rs c.args.account))) c.self.view_is

pub returns-clause-till : goal.returns-clause-till
returns-clause-till g c =
    let ts = c.till.inside.topped.items in
    let within : c.args.account < length ts = let r : c.args.account < length c.self.inside.rows.items = rw c.self.view_is c.requires.exists in let w = c.till.invariant.accounts ∙ sym c.self.invariant.accounts in omega arith in
    let had : c.index-had.result.now ≡ topped_at ts c.args.account = get_or_read ts c.args.account c.index-had.result.now within c.index-had.ensures 0 in
    ap (λ (t : ℕ). slice_set ts c.args.account (t + c.args.n)) had ∙ ap (λ (l : List ℕ). slice_set l c.args.account (topped_at l c.args.account + c.args.n)) c.till.view_is
