use Rattle.std.proofs.Common.{◌≡◌, ◌++◌, ◌∷◌, [], rules, arith}
use Rattle.sms_journal.specs.Sums.{segment_without_evidence}
use Rattle.sms_journal.proofs.OverLists.{made_all, made_more}
use Rattle.sms_journal.proofs.further.evidence.segments_of.Goals as goal

pub loop-segment-preserved : goal.loop-segment-preserved
loop-segment-preserved g c =
    let more : c.push.new.list.items ≡ c.loop-segment.bare.items ++ segment_without_evidence c.segment-item.result ∷ [] = search rules in
    made_more segment_without_evidence c.loop-segment.bare.items c.push.new.list.items c.args.segments.now c.loop-segment.segment-index c.segment-item.result more (omega arith) c.segment-item.is c.loop-segment.invariant

pub returns : goal.returns
returns g c = made_all segment_without_evidence c.loop-segment.bare.items c.args.segments.now c.loop-segment.segment-index (omega arith) c.loop-segment.invariant
