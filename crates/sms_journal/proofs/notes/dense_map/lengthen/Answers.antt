use Rattle.std.proofs.Common.{rules, ◌≡◌, ◌+◌, ◌++◌, ◌∷◌, [], None, length, ap, ◌∙◌, length-append, arith}
use Rattle.sms_journal.specs.DenseMap.{listed_at}
use Rattle.sms_journal.proofs.DenseMaps.{listed_none}
use Rattle.sms_journal.proofs.notes.dense_map.lengthen.Goals as goal

pub loop-place-preserved : goal.loop-place-preserved
loop-place-preserved g c =
    let before = c.loop-place.near.items in
    let more : c.push.new.list.items ≡ before ++ None ∷ [] = search rules in
    let long : length c.push.new.list.items ≡ length before + 1 = ap length more ∙ length-append before (None ∷ []) in
    let is : length before ≡ c.loop-place.place = c.loop-place.invariant.long in
    record {
      long = omega (arith, long, is);
      same = λ q. ap (λ xs. listed_at xs q) more ∙ listed_none before q ∙ c.loop-place.invariant.same q;
    }
