use Rattle.std.proofs.Common.{rules}
use Rattle.sms_files.proofs.Capped.{credits_more}
use Rattle.sms_files.proofs.report.summary.credits_of.Goals as goal

pub loop-row-preserved : goal.loop-row-preserved
loop-row-preserved c =
    let sums = c.with-credits.ensures in
    credits_more c.args.rows.now c.loop-row.row-index _ c.loop-row.credits c.with-credits.result (search rules) c.loop-row.invariant sums.charged sums.returned sums.reserved
