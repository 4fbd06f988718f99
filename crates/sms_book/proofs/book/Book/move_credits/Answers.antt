use Rattle.std.proofs.Common.{◌≡◌, ◌≢◌, ℕ, ◌<◌, ◌≤◌, length, List, [], ◌∷◌, sym, ap, ◌∙◌, subst, arith, length-set}
use Rattle.std.specs.Prelude.{slice_set, map}
use Rattle.std.proofs.lemmas.List.{get_or_read}
use Rattle.sms_core.specs.declared.row.Row.{Row}
use Rattle.sms_book.specs.declared.rule.View.TheVariants.{Book}
use Rattle.sms_book.specs.declared.money.Move.{Move}
use Rattle.sms_book.specs.declared.money.Move.TheVariants.{Reserve}
use Rattle.sms_book.specs.Money.{moved_amounts}
use Rattle.sms_book.specs.Portions.{amounts_at, no_amounts, of_worker, of_row}
use Rattle.sms_book.specs.Shares.{Share, number_of, changed}
use Rattle.sms_book.specs.Rule.{away}
use Rattle.sms_book.proofs.Alone.{opened_turned, till_kept}
use Rattle.sms_book.proofs.Turns.{settled, in_book}
use Rattle.sms_book.proofs.Totals.{AllAway-set}
use Rattle.sms_book.proofs.book.Book.move_credits.Goals as goal

-- what the caller said of its share, as it stands inside
held : (what : Move) (account n : ℕ) (inside share : Share) → inside ≡ share → (what ≢ Reserve → (0 < n) × (n ≤ (amounts_at share.amounts account).reserved)) → what ≢ Reserve → (0 < n) × (n ≤ (amounts_at inside.amounts account).reserved)
held what account n inside share is h = subst (λ (s : Share). what ≢ Reserve → (0 < n) × (n ≤ (amounts_at s.amounts account).reserved)) (sym is) h

pub index-row-requires : goal.index-row-requires
index-row-requires g c =
    let i = c.self.invariant in
    let s = c.share.invariant in
    let holds = held c.args.what c.args.account c.args.n _ _ c.share.view_is c.requires.share in
    let within = in_book i s c.args.account c.args.what c.args.n (rw c.self.view_is c.requires.row) holds in
    omega arith

pub index-had-requires : goal.index-had-requires
index-had-requires g c =
    let i = c.self.invariant in
    let s = c.share.invariant in
    let holds = held c.args.what c.args.account c.args.n _ _ c.share.view_is c.requires.share in
    let within = in_book i s c.args.account c.args.what c.args.n (rw c.self.view_is c.requires.row) holds in
    let w = s.accounts ∙ sym i.accounts in omega arith

pub row_after-requires : goal.row_after-requires
row_after-requires g c =
    let i = c.self.invariant in
    let s = c.share.invariant in
    let entry = c.check_in.ensures.entry i.entries _ s.number _ i.view s.view in
    let sums = c.check_in.ensures.sums i.entries _ i.view in
    let holds = held c.args.what c.args.account c.args.n _ _ c.share.view_is c.requires.share in
    (settled i s c.args.account c.args.what c.args.n c.index-row.result.now c.index-had.result.now entry sums c.index-row.ensures c.index-had.ensures (rw c.self.view_is c.requires.row) holds).can

pub amounts_after-requires : goal.amounts_after-requires
amounts_after-requires g c =
    let i = c.self.invariant in
    let s = c.share.invariant in
    let entry = c.check_in.ensures.entry i.entries _ s.number _ i.view s.view in
    let sums = c.check_in.ensures.sums i.entries _ i.view in
    let holds = held c.args.what c.args.account c.args.n _ _ c.share.view_is c.requires.share in
    (settled i s c.args.account c.args.what c.args.n c.index-row.result.now c.index-had.result.now entry sums c.index-row.ensures c.index-had.ensures (rw c.self.view_is c.requires.row) holds).fits

pub check_out-requires-clause-book : goal.check_out-requires-clause-book
check_out-requires-clause-book g c =
    let i = c.self.invariant in
    let s = c.share.invariant in
    let lent = c.check_in.ensures.book i.entries _ s.number _ i.view s.view in
    let entry = c.check_in.ensures.entry i.entries _ s.number _ i.view s.view in
    let sums = c.check_in.ensures.sums i.entries _ i.view in
    let holds = held c.args.what c.args.account c.args.n _ _ c.share.view_is c.requires.share in
    let t = settled i s c.args.account c.args.what c.args.n c.index-row.result.now c.index-had.result.now entry sums c.index-row.ensures c.index-had.ensures (rw c.self.view_is c.requires.row) holds in
    record {
      entries = i.entries;
      had = map of_row c.self.inside.rows.items;
      number = s.number;
      portions = map of_worker c.share.inside.amounts.items;
      is = lent;
      moves = rw (c.as_slice.ensures.value, c.as_slice-2.ensures.value, c.row_after.ensures, c.amounts_after.ensures) t.moves;
    }

pub invariant_of-self : goal.invariant_of-self
invariant_of-self g c =
    let i = c.self.invariant in
    let s = c.share.invariant in
    let lent = c.check_in.ensures.book i.entries _ s.number _ i.view s.view in
    let entry = c.check_in.ensures.entry i.entries _ s.number _ i.view s.view in
    let sums = c.check_in.ensures.sums i.entries _ i.view in
    let holds = held c.args.what c.args.account c.args.n _ _ c.share.view_is c.requires.share in
    let within = in_book i s c.args.account c.args.what c.args.n (rw c.self.view_is c.requires.row) holds in
    let t = settled i s c.args.account c.args.what c.args.n c.index-row.result.now c.index-had.result.now entry sums c.index-row.ensures c.index-had.ensures (rw c.self.view_is c.requires.row) holds in
    let book = c.check_out.ensures.book i.entries _ s.number _ lent in
    let new = map of_worker c.as_slice-2.result.now in
    let es = slice_set i.entries s.number (away new) in
    record {
      table_is = i.table_is;
      word = i.word;
      seat_is = c.check_out.ensures.table.0 ∙ c.check_in.ensures.table ∙ i.seat_is;
      accounts = length-set c.self.inside.rows.items c.args.account c.row_after.result ∙ i.accounts;
      workers_are = i.workers_are;
      sound = rw c.row_after.ensures t.sound;
      opened = rw c.row_after.ensures (opened_turned i c.args.account c.args.what c.args.n c.index-row.result.now within c.index-row.ensures);
      entries = es;
      view = book ∙ ap (λ (rows : List Row). Book es (map of_row rows) ∷ []) c.as_slice.ensures.value;
      away = AllAway-set i.entries s.number new i.away;
      long = length-set i.entries s.number (away new) ∙ i.long;
      till = till_kept i.entries s.number (away new) s.worker i.till;
    }

pub invariant_of-share : goal.invariant_of-share
invariant_of-share g c =
    let i = c.self.invariant in
    let s = c.share.invariant in
    let lent = c.check_in.ensures.book i.entries _ s.number _ i.view s.view in
    let given = c.check_out.ensures.holder i.entries _ s.number _ lent in
    record {
      seat_is = c.check_out.ensures.table.1 ∙ c.check_in.ensures.table ∙ i.seat_is;
      accounts = length-set c.share.inside.amounts.items c.args.account c.amounts_after.result ∙ s.accounts;
      number = s.number;
      worker = s.worker;
      view = rw (← c.as_slice-2.ensures.value) given;
    }

pub returns-clause-share : goal.returns-clause-share
returns-clause-share g c =
    let i = c.self.invariant in
    let s = c.share.invariant in
    let a = c.share.inside.amounts.items in
    let lent = c.check_in.ensures.book i.entries _ s.number _ i.view s.view in
    let given = c.check_out.ensures.holder i.entries _ s.number _ lent in
    let number : number_of c.check_out.result.views ≡ number_of c.share.inside.seat.views = ap number_of given ∙ sym (ap number_of s.view) in
    let within : c.args.account < length a = let r : c.args.account < length c.self.inside.rows.items = in_book i s c.args.account c.args.what c.args.n (rw c.self.view_is c.requires.row) (held c.args.what c.args.account c.args.n _ _ c.share.view_is c.requires.share) in let w = s.accounts ∙ sym i.accounts in omega arith in
    let had : c.index-had.result.now ≡ amounts_at a c.args.account = get_or_read a c.args.account c.index-had.result.now within c.index-had.ensures no_amounts in
    let new = c.amounts_after.ensures ∙ ap (moved_amounts c.args.what c.args.n) had in
    (λ j. record { number = number j; amounts = slice_set a c.args.account (new j) }) ∙ ap (λ (t : Share). changed t c.args.account (moved_amounts c.args.what c.args.n)) c.share.view_is

pub returns-clause-exists : goal.returns-clause-exists
returns-clause-exists g c =
    let i = c.self.invariant in
    let s = c.share.invariant in
    let holds = held c.args.what c.args.account c.args.n _ _ c.share.view_is c.requires.share in
    let within = in_book i s c.args.account c.args.what c.args.n (rw c.self.view_is c.requires.row) holds in
    (rw (← c.self.view_is) within, sym (ap (λ (t : Share). length t.amounts) c.share.view_is) ∙ s.accounts ∙ sym i.accounts ∙ ap length c.self.view_is)
