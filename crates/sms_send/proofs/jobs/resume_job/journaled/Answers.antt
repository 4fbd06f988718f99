use Rattle.std.proofs.Common.{inl, inr, refl, rules}
use Rattle.sms_send.proofs.jobs.resume_job.journaled.Goals as goal

pub returns-in-Err-clause-refused : goal.returns-in-Err-clause-refused
returns-in-Err-clause-refused g c = inl c.in-Err.ensures.refused

pub returns-then-eq-clause-refused : goal.returns-then-eq-clause-refused
returns-then-eq-clause-refused g c = inr (refl, (c.in-Ok.run', c.in-Ok.ensures.run, search rules))

pub returns-clause-run : goal.returns-clause-run
returns-clause-run g c = (c.in-Ok.ensures.run, search rules)
