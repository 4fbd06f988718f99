use Rattle.std.proofs.Common.{◌≡◌, ℕ, suc, ◌+◌, ◌<◌, ◌≤◌, List, [], ◌∷◌, ◌++◌, sym, ap, ◌∙◌, subst, map, length, set, Some, replicate, rules, arith}
use Rattle.std.specs.Prelude.{slice_get, slice_set}
use Rattle.std.specs.Vec.Iter.{into_iter_items}
use Rattle.std.proofs.lemmas.List.{length-replicate, length-map}
use Rattle.sms_book.specs.declared.rule.Portion.{Portion}
use Rattle.sms_book.specs.declared.rule.Entry.{Entry}
use Rattle.sms_book.specs.declared.rule.View.TheVariants.{Book, Holder}
use Rattle.sms_book.specs.Portions.{no_amounts, nothing, of_worker}
use Rattle.sms_book.specs.Shares.{number_of, opening_shares}
use Rattle.sms_book.specs.Rule.{at_home, away}
use Rattle.sms_book.proofs.Dealing.{dealt, get_dealt, set_dealt, replicate_get, dealt-replicate, next_equal, all_taken, shares_push, workers-nothing}
use Rattle.sms_book.proofs.blank.deal_shares.Goals as goal

-- the entry of the next number, behind the till's
next_home : (e : Entry) (n w : ℕ) (ps : List Portion) → n < w → slice_get (e ∷ dealt n (replicate w (at_home ps))) (n + 1) ≡ Some (at_home ps)
next_home e n w ps low =
    let one : suc n ≡ n + 1 = omega arith in
    subst (λ (j : ℕ). slice_get (e ∷ dealt n (replicate w (at_home ps))) j ≡ Some (at_home ps)) one (get_dealt n (replicate w (at_home ps)) ps (replicate_get w n (at_home ps) low))

-- it goes out
next_away : (e : Entry) (n w : ℕ) (ps : List Portion) → n < w → slice_set (e ∷ dealt n (replicate w (at_home ps))) (n + 1) (away ps) ≡ e ∷ dealt (n + 1) (replicate w (at_home ps))
next_away e n w ps low =
    let one : suc n ≡ n + 1 = omega arith in
    subst (λ (j : ℕ). set (e ∷ dealt n (replicate w (at_home ps))) j (away ps) ≡ e ∷ dealt j (replicate w (at_home ps))) one
    (ap (λ (l : List Entry). e ∷ l) (set_dealt n (replicate w (at_home ps)) ps (replicate_get w n (at_home ps) low)))

pub deal-requires-clause-here : goal.deal-requires-clause-here
deal-requires-clause-here g c =
    let i = c.loop-amounts.invariant in
    let (e, ts, is) = c.requires.book in
    let n = c.loop-amounts.number in
    let w = g.N.BookName.book.workers in
    let ps = replicate g.N.BookName.book.accounts nothing in
    let mid = next_equal n w _ _ _ _ i.rest (ap (map (λ a. a.items)) c.in-Some.ensures.steps.0) in
    record { entries = e ∷ dealt n (replicate w (at_home ps)); totals = ts; portions = ps; is = i.seat e ts is; entry = next_home e n w ps mid.few }

pub invariant_of-push_reserved : goal.invariant_of-push_reserved
invariant_of-push_reserved g c =
    let i = c.loop-amounts.invariant in
    let (e, ts, is) = c.requires.book in
    let n = c.loop-amounts.number in
    let w = g.N.BookName.book.workers in
    let ps = replicate g.N.BookName.book.accounts nothing in
    let mid = next_equal n w _ _ _ _ i.rest (ap (map (λ a. a.items)) c.in-Some.ensures.steps.0) in
    let given = c.deal.ensures.holder (e ∷ dealt n (replicate w (at_home ps))) ts ps (i.seat e ts is) (next_home e n w ps mid.few) in
    record {
      seat_is = c.deal.ensures.table.1 ∙ i.table;
      accounts = ap length mid.same ∙ length-replicate g.N.BookName.book.accounts no_amounts;
      number = n + 1;
      worker = omega arith;
      view = given ∙ ap (λ (x : List Portion). Holder (n + 1) x ∷ []) (sym (ap (map of_worker) mid.same ∙ workers-nothing g.N.BookName.book.accounts));
    }

pub push_reserved-requires : goal.push_reserved-requires
push_reserved-requires g c =
    let i = c.loop-amounts.invariant in
    let mid = next_equal c.loop-amounts.number g.N.BookName.book.workers _ _ _ _ i.rest (ap (map (λ a. a.items)) c.in-Some.ensures.steps.0) in
    let low = mid.few in
    let count = i.count in
    let room = i.room in
    omega arith

pub loop-amounts-preserved : goal.loop-amounts-preserved
loop-amounts-preserved g c =
    let i = c.loop-amounts.invariant in
    let n = c.loop-amounts.number in
    let name = g.N.BookName.book in
    let w = name.workers in
    let ps = replicate name.accounts nothing in
    let blank = replicate name.accounts no_amounts in
    let mid = next_equal n w _ _ _ _ i.rest (ap (map (λ a. a.items)) c.in-Some.ensures.steps.0) in
    let one : n + 1 ≡ suc n = omega arith in
    let (e, ts, is) = c.requires.book in
    let given = c.deal.ensures.holder (e ∷ dealt n (replicate w (at_home ps))) ts ps (i.seat e ts is) (next_home e n w ps mid.few) in
    record {
      table = c.deal.ensures.table.0 ∙ i.table;
      seat = λ e ts is.
          c.deal.ensures.book (e ∷ dealt n (replicate w (at_home ps))) ts ps (i.seat e ts is) (next_home e n w ps mid.few)
          ∙ ap (λ (x : List Entry). Book x ts ∷ []) (next_away e n w ps mid.few);
      count = c.push_reserved.ensures.len ∙ ap (λ (x : ℕ). x + 1) i.count;
      shares = c.push_reserved.ensures.items ∙ shares_push name.accounts n (n + 1) c.loop-amounts.shares.items _ i.shares one (ap number_of given ∙ one) mid.same;
      rest = subst (λ (m : ℕ). replicate m blank ++ map (λ a. a.items) (into_iter_items c.next.new.self) ≡ replicate w blank) (sym one) mid.rest;
      room = subst (λ (k : ℕ). w ≤ k) (sym c.push_reserved.ensures.capacity) i.room;
    }

-- all went out
pub returns-clause-book : goal.returns-clause-book
returns-clause-book g c e ts is =
    let i = c.loop-amounts.invariant in
    let left = into_iter_items c.loop-amounts.amounts-iterator in
    let w = g.N.BookName.book.workers in
    let ps = replicate g.N.BookName.book.accounts nothing in
    let none : length left ≡ 0 = (let h = c.in-None.ensures.steps in grind rules) in
    let done = all_taken c.loop-amounts.number w _ _ i.rest (length-map left (λ a. a.items) ∙ none) in
    i.seat e ts is ∙ ap (λ (m : ℕ). Book (e ∷ dealt m (replicate w (at_home ps))) ts ∷ []) done ∙ ap (λ (x : List Entry). Book (e ∷ x) ts ∷ []) (dealt-replicate w ps)

pub returns-clause-shares : goal.returns-clause-shares
returns-clause-shares g c =
    let i = c.loop-amounts.invariant in
    let left = into_iter_items c.loop-amounts.amounts-iterator in
    let none : length left ≡ 0 = (let h = c.in-None.ensures.steps in grind rules) in
    let done = all_taken c.loop-amounts.number g.N.BookName.book.workers _ _ i.rest (length-map left (λ a. a.items) ∙ none) in
    i.shares ∙ ap (opening_shares g.N.BookName.book.accounts) done
