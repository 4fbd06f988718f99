use Rattle.std.proofs.Common.{inl, inr}
use Rattle.std.proofs.lemmas.Result.{IfErr-weaker, IfOk-weaker}
use Rattle.sms_send.proofs.jobs.list_job.list_free.Goals as goal

pub returns-in-Ok-read_run-clause-listed : goal.returns-in-Ok-read_run-clause-listed
returns-in-Ok-read_run-clause-listed g c = IfOk-weaker c.list_asked.result _ _ (λ status is. (c.in-Ok-read_run.run', c.in-Ok-read_run.ensures.read, is)) c.list_asked.ensures.listed

pub returns-in-Ok-read_run-clause-refused : goal.returns-in-Ok-read_run-clause-refused
returns-in-Ok-read_run-clause-refused g c = IfErr-weaker c.list_asked.result _ _ (λ fault tells. inr (c.in-Ok-read_run.run', c.in-Ok-read_run.ensures.read, tells)) c.list_asked.ensures.refused

pub returns-clause-refused : goal.returns-clause-refused
returns-clause-refused g c = inl c.in-Err-read_run.ensures.refused
