use Rattle.std.proofs.Common.{◌≡◌, ◌+◌, ◌++◌, ℕ, ◌<◌, [], ◌∷◌, List, length, map, rules, arith, refl, sym, ap, ◌∙◌, append_assoc, append-nil, subst}
use Rattle.std.specs.Prelude.{slice_set}
use Rattle.std.specs.Vec.Iter.{into_iter_items}
use Rattle.std.proofs.lemmas.List.{length-map, map-append}
use Rattle.sms_core.specs.declared.row.Row.{Row}
use Rattle.sms_core.proofs.Numbers.{length-drawn}
use Rattle.sms_book.specs.declared.rule.Portion.{Portion}
use Rattle.sms_book.specs.Portions.{row_at, of_till, of_worker, of_row}
use Rattle.sms_book.specs.Rule.{at_home}
use Rattle.sms_book.specs.Shares.{Share, number_of, AreAll}
use Rattle.sms_book.specs.Sums.{IsSumOf}
use Rattle.sms_book.proofs.Returned.{AreBack, back_open, back_more, back_all}
use Rattle.sms_book.proofs.Sums.{Gathered, back, back-snoc, gathered_open, gathered_more, gathered_home, gathered_all}
use Rattle.sms_book.proofs.gathering.gather.Goals as goal

nil_of : (l : List Share) → length l ≡ 0 → l ≡ []
nil_of [] e = refl
nil_of (x ∷ l) e = absurd (omega arith)

pub loop-share-init : goal.loop-share-init
loop-share-init g c =
    let b = c.book.invariant in
    let t = c.till.invariant in
    let ps = map of_till c.till.inside.topped.items in
    let entry = c.keep.ensures.entry b.entries _ 0 ps b.view t.view in
    let n = g.N.BookName.book.workers + 1 in
    let es = slice_set b.entries 0 (at_home ps) in
    record {
      entries = es;
      done = [];
      seat = c.keep.ensures.book b.entries _ 0 ps b.view t.view;
      table = c.keep.ensures.table ∙ b.seat_is;
      all = search rules;
      gathered = subst (λ (x : List ℕ). Gathered (map of_row c.book.inside.rows.items) n es (back x [])) c.till.view_is (gathered_open _ n b.entries 0 ps b.away b.long entry (c.keep.ensures.sums b.entries _ b.view));
      numbers = back_more b.entries [] 0 ps entry (back_open b.entries b.away);
    }

pub loop-share-preserved : goal.loop-share-preserved
loop-share-preserved g c =
    let i = c.loop-share.invariant in
    let s = c.share.invariant in
    let share : Share = record { number = number_of c.share.inside.seat.views; amounts = c.share.inside.amounts.items } in
    let ps = map of_worker share.amounts in
    let entry = c.keep-in-loop-share.ensures.entry i.entries _ s.number ps i.seat s.view in
    let es = slice_set i.entries s.number (at_home ps) in
    let left = into_iter_items c.next.new.self in
    let next : i.done ++ into_iter_items c.loop-share.share-iterator ≡ (i.done ++ share ∷ []) ++ left =
    ap (λ l. i.done ++ l) (c.in-Some.ensures.steps.0 ∙ ap (λ x. x ∷ left) (sym c.share.view_is)) ∙ sym (append_assoc i.done (share ∷ []) left) in
    let number : share.number ≡ s.number = ap number_of s.view in
    let numbers : 0 ∷ map (λ (t : Share). t.number) i.done ++ s.number ∷ [] ≡ 0 ∷ map (λ (t : Share). t.number) (i.done ++ share ∷ []) =
    ap (λ (l : List ℕ). 0 ∷ l) (ap (λ (m : ℕ). map (λ (t : Share). t.number) i.done ++ m ∷ []) (sym number) ∙ sym (map-append (λ (t : Share). t.number) i.done (share ∷ []))) in
    record {
      entries = es;
      done = i.done ++ share ∷ [];
      seat = c.keep-in-loop-share.ensures.book i.entries _ s.number ps i.seat s.view;
      table = c.keep-in-loop-share.ensures.table ∙ i.table;
      all = sym next ∙ i.all;
      gathered = subst (λ (x : List (List Portion)). Gathered (map of_row c.book.inside.rows.items) (g.N.BookName.book.workers + 1) es x) (back-snoc c.args.till i.done share) (gathered_more _ _ i.entries (back c.args.till i.done) s.number ps entry i.gathered);
      numbers = subst (AreBack es) numbers (back_more i.entries (0 ∷ map (λ (t : Share). t.number) i.done) s.number ps entry i.numbers);
    }

all_done : (done rest shares : List Share) → length rest ≡ 0 → done ++ rest ≡ shares → done ≡ shares
all_done done rest shares none all = sym (append-nil done) ∙ ap (λ l. done ++ l) (sym (nil_of rest none)) ∙ all

pub returns-clause-sums : goal.returns-clause-sums
returns-clause-sums g c =
    let i = c.loop-share.invariant in
    let rows = c.book.inside.rows.items in
    let done = all_done i.done (into_iter_items c.loop-share.share-iterator) c.args.shares.items (let h = c.in-None.ensures.steps in grind rules) i.all in
    let count : length i.done ≡ g.N.BookName.book.workers = ap length done ∙ search rules in
    subst (λ (rows : List Row). (j : ℕ) → j < length rows → IsSumOf (row_at rows j) j c.args.till c.args.shares.items) (sym c.new.ensures)
    (λ j low. subst (λ (l : List Share). IsSumOf (row_at rows j) j c.args.till l) done
    (gathered_all rows (g.N.BookName.book.workers + 1) i.entries c.args.till i.done c.book.invariant.sound i.gathered (ap (λ (x : ℕ). x + 1) count) j low))

pub returns-clause-each : goal.returns-clause-each
returns-clause-each g c =
    let i = c.loop-share.invariant in
    let w = g.N.BookName.book.workers in
    let done = all_done i.done (into_iter_items c.loop-share.share-iterator) c.args.shares.items (let h = c.in-None.ensures.steps in grind rules) i.all in
    let count : length i.done ≡ w = ap length done ∙ search rules in
    let home = gathered_home _ (w + 1) i.entries c.args.till i.done i.gathered (ap (λ (x : ℕ). x + 1) count) in
    subst (AreAll w) done (back_all i.entries w (map (λ (s : Share). s.number) i.done) i.gathered.long home i.numbers)

pub returns-clause-missing : goal.returns-clause-missing
returns-clause-missing g c = (λ e. absurd (cc), λ no. absurd (no (returns-clause-each g c)))

pub returns-then-len-book-clause-missing : goal.returns-then-len-book-clause-missing
returns-then-len-book-clause-missing g c =
    let w = g.N.BookName.book.workers in (
      λ _ all.
          let l = length-drawn 1 (w + 1) (map (λ (s : Share). s.number) c.args.shares.items) (omega arith) all in
          let m = length-map c.args.shares.items (λ (s : Share). s.number) in
          c.if-len-book.true (search rules),
      λ _. refl,
    )
