use Rattle.std.proofs.Common.{rules}
use Rattle.sms_files.specs.Whole.{counts_whole}
use Rattle.sms_files.proofs.Capped.{capped_more}
use Rattle.sms_files.proofs.report.whole.count_whole.Goals as goal

pub loop-end-preserved : goal.loop-end-preserved
loop-end-preserved g c =
    capped_more counts_whole c.args.ends.now c.loop-end.end-index c.end-item.result c.end-item.result _ _ _ (search rules) c.end-item.is c.loop-end.invariant c.count.ensures (search rules)
