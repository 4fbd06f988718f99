use Rattle.std.proofs.Common.{rules}
use Rattle.sms_files.specs.Summary.{segments_in}
use Rattle.sms_files.proofs.Capped.{capped_more}
use Rattle.sms_files.proofs.report.summary.all_segments.Goals as goal

pub loop-end-preserved : goal.loop-end-preserved
loop-end-preserved g c =
    capped_more segments_in c.args.ends.now c.loop-end.end-index c.end-item.result c.end-item.result _ _ _ (search rules) c.end-item.is c.loop-end.invariant c.segments_of.ensures (search rules)
