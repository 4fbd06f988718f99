use Rattle.std.proofs.Common.{◌≡◌, List, [], ◌∷◌, map, length, refl, sym, ap, ◌∙◌, rules, arith}
use Rattle.std.specs.Vec.Iter.{into_iter_items}
use Rattle.sms_driver.specs.Deals.{dealt, next, onto}
use Rattle.sms_driver.proofs.Dealt.{length-dealt, nils_onto, onto_nils}
use Rattle.sms_driver.proofs.dealing.deal.Goals as goal

pub loop-item-init : goal.loop-item-init
loop-item-init g c = record {
  long = search rules;
  place = search rules;
  dealt =
      let n = c.args.count in
      let ms = into_iter_items c.into_iter-item-iterator.result in
      ap (λ hs. onto hs (dealt n 0 ms)) c.in_ok-batches.ensures.empty ∙ nils_onto n (dealt n 0 ms) (length-dealt n 0 ms) ∙ ap (dealt n 0) c.into_iter-item-iterator.ensures.into_iter_gives.0;
}

pub loop-item-preserved : goal.loop-item-preserved
loop-item-preserved g c = record {
  long = search rules;
  place = search rules;
  dealt =
      let n = c.args.count in
      let w = c.loop-item.place in
      let i = c.loop-item.invariant in
      let steps = c.in-Some.ensures.steps in
      let rest = into_iter_items c.next.new.self in
      ap (λ p. onto (map (λ l. l.items) c.give.new.batches.items) (dealt n p rest)) c.next_place-place.ensures.next
      ∙ c.in_ok-give.ensures.given (dealt n (next n w) rest) (length-dealt n (next n w) rest ∙ sym i.long)
      ∙ ap (λ l. onto (map (λ l. l.items) c.loop-item.batches.items) (dealt n w l)) (sym steps.0)
      ∙ i.dealt;
}

nil_of : {T : Type 0} (l : List T) → length l ≡ 0 → l ≡ []
nil_of [] e = refl
nil_of (x ∷ l) e = absurd (omega arith)

pub returns-clause-dealt : goal.returns-clause-dealt
returns-clause-dealt g c =
    let n = c.args.count in
    let h = c.in-None.ensures.steps in
    let none = nil_of (into_iter_items c.loop-item.item-iterator) (grind rules) in
    let hs = map (λ l. l.items) c.loop-item.batches.items in
    sym (onto_nils hs n) ∙ ap (λ l. onto hs (dealt n c.loop-item.place l)) (sym none) ∙ c.loop-item.invariant.dealt
