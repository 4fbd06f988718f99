use Rattle.std.proofs.Common.{rules}
use Rattle.sms_files.proofs.Tallies.{counts_more}
use Rattle.sms_files.proofs.report.tally.tally_of.Goals as goal

pub loop-end-preserved : goal.loop-end-preserved
loop-end-preserved g c =
    counts_more c.args.ends.now c.loop-end.end-index c.end-item.result c.end-item.result c.loop-end.tally _ c.message_standing.result (search rules) c.end-item.is c.loop-end.invariant c.message_standing.ensures c.count.ensures
