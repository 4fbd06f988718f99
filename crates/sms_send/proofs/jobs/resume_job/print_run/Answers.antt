use Rattle.std.proofs.Common.{ap}
use Rattle.sms_send.proofs.Resuming.{cut_run, prints_run}
use Rattle.sms_send.proofs.Sendings.{unwritten_quiet}
use Rattle.sms_send.proofs.jobs.resume_job.print_run.Goals as goal

pub returns-in-Ok-clause-printed : goal.returns-in-Ok-clause-printed
returns-in-Ok-clause-printed g c =
    prints_run c.args.strict c.args.run _ _ _ _ _ _ _ c.as_slice.ensures.value c.as_slice-2.ensures.value c.as_slice-in-Ok.ensures.value c.new-statement.ensures c.requires.none c.in-Ok.ensures.written c.status_of.ensures

pub returns-clause-refused : goal.returns-clause-refused
returns-clause-refused g c =
    cut_run c.args.run _ _ _ _ _ _ c.as_slice.ensures.value c.as_slice-2.ensures.value c.new-statement.ensures c.requires.none c.in-Err.ensures.failed c.in-Err.ensures.front (λ memory. ap g.W.Write.contents (c.in-Err.ensures.quiet memory))

pub returns-clause-quiet : goal.returns-clause-quiet
returns-clause-quiet g c = λ other. unwritten_quiet _ _ _ c.in-Err.ensures.failed c.in-Err.ensures.quiet other
