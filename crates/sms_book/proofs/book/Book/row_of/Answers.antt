use Rattle.std.proofs.Common.{◌≡◌, ℕ, ◌≤◌, sym, ◌∙◌, ap, subst, List, [], ◌∷◌}
use Rattle.std.specs.Prelude.{slice_set, map}
use Rattle.sms_book.specs.declared.amounts.Amounts.{Amounts}
use Rattle.sms_book.specs.declared.rule.View.TheVariants.{Book}
use Rattle.sms_book.specs.Portions.{amounts_at, of_worker, of_row}
use Rattle.sms_book.specs.Shares.{Share, number_of}
use Rattle.sms_book.specs.Rule.{away}
use Rattle.sms_book.proofs.Moves.{set_back}
use Rattle.sms_book.specs.Alone.{IsOfOne, opening_at}
use Rattle.sms_book.proofs.Alone.{seen_one}
use Rattle.sms_book.proofs.Turns.{seen_row, still}
use Rattle.sms_book.proofs.book.Book.row_of.Goals as goal

pub check_out-requires-clause-book : goal.check_out-requires-clause-book
check_out-requires-clause-book g c =
    let i = c.self.invariant in
    let s = c.share.invariant in
    let ts = map of_row c.self.inside.rows.items in
    let a = map of_worker c.share.inside.amounts.items in
    let lent = c.check_in.ensures.book i.entries _ s.number _ i.view s.view in
    record { entries = i.entries; had = ts; number = s.number; portions = a; is = lent; moves = rw (c.as_slice.ensures.value, c.as_slice-2.ensures.value) (still a ts) }

pub invariant_of-self : goal.invariant_of-self
invariant_of-self g c =
    let i = c.self.invariant in
    let s = c.share.invariant in
    let lent = c.check_in.ensures.book i.entries _ s.number _ i.view s.view in
    let entry = c.check_in.ensures.entry i.entries _ s.number _ i.view s.view in
    let book = c.check_out.ensures.book i.entries _ s.number _ lent in
    let same : slice_set i.entries s.number (away (map of_worker c.as_slice-2.result.now)) ≡ i.entries =
    ap (λ (x : List Amounts). slice_set i.entries s.number (away (map of_worker x))) c.as_slice-2.ensures.value ∙ set_back i.entries s.number (away (map of_worker c.share.inside.amounts.items)) entry in
    let rows : map of_row c.as_slice.result.now ≡ map of_row c.self.inside.rows.items = ap (map of_row) c.as_slice.ensures.value in
    record {
      table_is = i.table_is;
      word = i.word;
      seat_is = c.check_out.ensures.table.0 ∙ c.check_in.ensures.table ∙ i.seat_is;
      accounts = i.accounts;
      workers_are = i.workers_are;
      sound = i.sound;
      opened = i.opened;
      entries = i.entries;
      view = book ∙ (λ j. Book (same j) (rows j) ∷ []);
      away = i.away;
      long = i.long;
      till = i.till;
    }

pub invariant_of-share : goal.invariant_of-share
invariant_of-share g c =
    let i = c.self.invariant in
    let s = c.share.invariant in
    let lent = c.check_in.ensures.book i.entries _ s.number _ i.view s.view in
    let given = c.check_out.ensures.holder i.entries _ s.number _ lent in
    record {
      seat_is = c.check_out.ensures.table.1 ∙ c.check_in.ensures.table ∙ i.seat_is;
      accounts = s.accounts;
      number = s.number;
      worker = s.worker;
      view = rw (← c.as_slice-2.ensures.value) given;
    }

pub returns-clause-least : goal.returns-clause-least
returns-clause-least g c =
    let i = c.self.invariant in
    let s = c.share.invariant in
    let entry = c.check_in.ensures.entry i.entries _ s.number _ i.view s.view in
    let sums = c.check_in.ensures.sums i.entries _ i.view in
    subst (λ (t : Share). let a = amounts_at t.amounts c.args.account in (a.reserved ≤ c.index.result.now.reserved) × (a.charged ≤ c.index.result.now.charged) × (a.returned ≤ c.index.result.now.returned)) c.share.view_is
    (seen_row i s c.args.account c.index.result.now entry sums (rw c.self.view_is c.requires) c.index.ensures)

pub returns-clause-unchanged : goal.returns-clause-unchanged
returns-clause-unchanged g c =
    let i = c.self.invariant in
    let s = c.share.invariant in
    let lent = c.check_in.ensures.book i.entries _ s.number _ i.view s.view in
    let given = c.check_out.ensures.holder i.entries _ s.number _ lent in
    let number : number_of c.check_out.result.views ≡ number_of c.share.inside.seat.views = ap number_of given ∙ sym (ap number_of s.view) in
    (c.self.view_is, ap (λ (n : ℕ). record { number = n; amounts = c.share.inside.amounts.items }) number ∙ c.share.view_is)

pub returns-clause-alone : goal.returns-clause-alone
returns-clause-alone g c alone =
    let i = c.self.invariant in
    let s = c.share.invariant in
    let entry = c.check_in.ensures.entry i.entries _ s.number _ i.view s.view in
    let sums = c.check_in.ensures.sums i.entries _ i.view in
    subst (λ (t : Share). IsOfOne (opening_at g.N.BookName.book c.args.account) (amounts_at t.amounts c.args.account) c.index.result.now) c.share.view_is
    (seen_one i s c.args.account c.index.result.now entry sums (rw c.self.view_is c.requires) c.index.ensures alone)
