use Rattle.std.proofs.Common.{inl, inr}
use Rattle.sms_send.proofs.Delivering.{delivers, fails_printing}
use Rattle.sms_send.proofs.jobs.delivered_job.deliver_free.Goals as goal

pub returns-in-Ok-records_at-clause-delivered : goal.returns-in-Ok-records_at-clause-delivered
returns-in-Ok-records_at-clause-delivered g c =
    delivers (g.R.InputFiles.finds c.args.rt.now) c.args.order c.in-Ok.read c.in-Ok-records_at.records.items c.as_slice.result.now (g.W.Write.contents c.args.output.now) (g.W.Write.contents c.print_parts.new.output) c.print_parts.result
    c.in-Ok.ensures.read c.in-Ok-records_at.ensures.read c.as_slice.ensures.value c.print_parts.ensures.printed

pub returns-in-Ok-records_at-clause-refused : goal.returns-in-Ok-records_at-clause-refused
returns-in-Ok-records_at-clause-refused g c =
    fails_printing (g.R.InputFiles.finds c.args.rt.now) c.args.order c.in-Ok.read c.in-Ok-records_at.records.items c.as_slice.result.now (g.W.Write.contents c.args.output.now) (g.W.Write.contents c.print_parts.new.output) c.print_parts.result
    c.in-Ok.ensures.read c.in-Ok-records_at.ensures.read c.as_slice.ensures.value c.print_parts.ensures.failed

pub returns-in-Err-clause-refused : goal.returns-in-Err-clause-refused
returns-in-Err-clause-refused g c = inl c.in-Err.ensures.refused

pub returns-clause-refused : goal.returns-clause-refused
returns-clause-refused g c = inr (inl c.in-Err-records_at.ensures.refused)
