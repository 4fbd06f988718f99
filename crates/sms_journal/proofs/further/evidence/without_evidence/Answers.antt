use Rattle.std.proofs.Common.{◌≡◌, ◌++◌, ◌∷◌, [], rules, arith}
use Rattle.sms_journal.specs.Sums.{end_without_evidence}
use Rattle.sms_journal.proofs.OverLists.{made_all, made_more}
use Rattle.sms_journal.proofs.further.evidence.without_evidence.Goals as goal

pub loop-end-preserved : goal.loop-end-preserved
loop-end-preserved g c =
    let more : c.push.new.list.items ≡ c.loop-end.bare.items ++ end_without_evidence c.end-item.result ∷ [] = search rules in
    made_more end_without_evidence c.loop-end.bare.items c.push.new.list.items c.args.ends.now c.loop-end.end-index c.end-item.result more (omega arith) c.end-item.is c.loop-end.invariant

pub returns : goal.returns
returns g c = made_all end_without_evidence c.loop-end.bare.items c.args.ends.now c.loop-end.end-index (omega arith) c.loop-end.invariant
