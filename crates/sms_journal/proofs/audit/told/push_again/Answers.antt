use Rattle.std.proofs.Common.{map, arith, ◌++◌}
use Rattle.std.specs.Prelude.{replicate}
use Rattle.sms_journal.specs.Replied.{said}
use Rattle.sms_journal.specs.ReportParts.{again}
use Rattle.sms_journal.proofs.ToldParts.{again_more}
use Rattle.sms_journal.proofs.audit.told.push_again.Goals as goal

pub loop-preserved : goal.loop-preserved
loop-preserved c =
    again_more c.loop.items.items c.push.new.list.items c.again.result (map said c.args.items.now.items ++ replicate c.args.count again) c.args.count c.loop.counter (omega arith) c.in_ok-push.ensures.items c.again.ensures c.loop.invariant
