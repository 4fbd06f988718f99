use Rattle.std.proofs.Common.{◌≡◌, ℕ, ◌<◌, List, [], ◌∷◌, refl, sym, ap, ◌∙◌, subst, map, length, replicate, arith}
use Rattle.std.proofs.lemmas.List.{length-replicate, length-map}
use Rattle.sms_book.specs.declared.rule.Portion.{Portion}
use Rattle.sms_book.specs.declared.rule.View.TheVariants.{Book}
use Rattle.sms_book.specs.Name.{BookId, Unopened}
use Rattle.sms_book.specs.Portions.{nothing, of_till, of_row}
use Rattle.sms_book.specs.Openings.{opening_row}
use Rattle.sms_book.specs.Rule.{opening_entries, at_home, away}
use Rattle.sms_book.specs.Sums.{AreSound}
use Rattle.sms_core.specs.declared.row.Row.{Row}
use Rattle.sms_book.specs.Alone.{AreOpened}
use Rattle.sms_book.proofs.Alone.{opened-opening, till_has}
use Rattle.sms_book.proofs.Dealing.{AllAway-replicate, sound-opening, totals-opening}
use Rattle.sms_book.proofs.blank.Blank.deal_out.Goals as goal

pub deal-requires-clause-here : goal.deal-requires-clause-here
deal-requires-clause-here g c =
    let s = c.self.inside in
    record {
      entries = opening_entries s.credits.items s.workers;
      totals = map of_till s.credits.items;
      portions = map of_till s.credits.items;
      is = c.self.invariant.view;
      entry = refl;
    }

-- the workers' entries, by the book's name
pub deal_shares-shares-requires-clause-book : goal.deal_shares-shares-requires-clause-book
deal_shares-shares-requires-clause-book g c =
    let s = c.self.inside in
    let ts = map of_till s.credits.items in
    let name = ap (λ (u : Unopened). record u.book { sealed = g.S.Sealing.sealed }) c.self.view_is ∙ c.requires.name in
    let book = c.deal.ensures.book (opening_entries s.credits.items s.workers) ts ts c.self.invariant.view refl in
    (away ts, ts, book ∙ ap (λ (b : BookId). Book (away ts ∷ replicate b.workers (at_home (replicate b.accounts nothing))) ts ∷ []) name)

pub invariant_of-book : goal.invariant_of-book
invariant_of-book g c =
    let i = c.self.invariant in
    let s = c.self.inside in
    let ts = map of_till s.credits.items in
    let name = ap (λ (u : Unopened). record u.book { sealed = g.S.Sealing.sealed }) c.self.view_is ∙ c.requires.name in
    let w = g.N.BookName.book.workers in
    let out = away (replicate g.N.BookName.book.accounts nothing) in
    let rows : c.args.room.rows.items ≡ map opening_row s.credits.items = c.requires.rows ∙ ap (λ (u : Unopened). map opening_row u.credits) (sym c.self.view_is) in
    let before = c.deal.ensures.book (opening_entries s.credits.items s.workers) ts ts i.view refl ∙ ap (λ (b : BookId). Book (away ts ∷ replicate b.workers (at_home (replicate b.accounts nothing))) ts ∷ []) name in
    let es = away ts ∷ replicate w out in
    record {
      table_is = ap (λ (b : BookId). b.table) name;
      word = subst (λ (b : BookId). 0 < b.table.words) name i.word;
      seat_is = c.deal_shares-shares.ensures.table;
      accounts = ap length rows ∙ length-map s.credits.items opening_row ∙ ap (λ (b : BookId). b.accounts) name;
      workers_are = ap (λ (b : BookId). b.workers) name;
      sound = subst AreSound (sym rows) (sound-opening s.credits.items i.small);
      opened = subst (λ (x : BookId × List Row). AreOpened x.0.sealed x.0.opening x.1) (λ j. (name j, sym rows j)) (opened-opening g.S.Sealing.sealed s.credits.items);
      entries = es;
      view = c.deal_shares-shares.ensures.book (away ts) ts before ∙ ap (λ (x : List Portion). Book es x ∷ []) (totals-opening s.credits.items ∙ ap (map of_row) (sym rows));
      away = (refl, AllAway-replicate w (replicate g.N.BookName.book.accounts nothing));
      long = let l = length-replicate w out in omega arith;
      till = till_has s.credits.items;
    }

pub invariant_of-till : goal.invariant_of-till
invariant_of-till g c =
    let i = c.self.invariant in
    let s = c.self.inside in
    let ts = map of_till s.credits.items in
    let name = ap (λ (u : Unopened). record u.book { sealed = g.S.Sealing.sealed }) c.self.view_is ∙ c.requires.name in
    record {
      kind = sym (ap (λ (b : BookId). b.sealed) name);
      seat_is = c.deal.ensures.table.1 ∙ i.seat_is ∙ ap (λ (b : BookId). b.table) name;
      accounts = ap (λ (b : BookId). b.accounts) name;
      view = c.deal.ensures.holder (opening_entries s.credits.items s.workers) ts ts i.view refl;
    }
