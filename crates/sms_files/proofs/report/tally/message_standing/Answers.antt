use Rattle.std.proofs.Common.{rules}
use Rattle.sms_files.proofs.Tallies.{segments_more}
use Rattle.sms_files.proofs.report.tally.message_standing.Goals as goal

pub loop-segment-preserved : goal.loop-segment-preserved
loop-segment-preserved g c =
    segments_more _ c.loop-segment.segment-index c.segment-item.result c.segment-item.result c.loop-segment.all c.segment_standing.result _ (search rules) c.segment-item.is c.loop-segment.invariant c.segment_standing.ensures c.joined-all.ensures
