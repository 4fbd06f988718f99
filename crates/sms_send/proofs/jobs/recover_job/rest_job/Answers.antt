use Rattle.std.proofs.Common.{inl, inr}
use Rattle.std.proofs.lemmas.Result.{IfErr-weaker, IfOk-weaker}
use Rattle.sms_send.proofs.jobs.recover_job.rest_job.Goals as goal

pub returns-in-Ok-clause-printed : goal.returns-in-Ok-clause-printed
returns-in-Ok-clause-printed g c = IfOk-weaker c.left_asked.result _ _ (λ status is. (c.in-Ok.run', c.in-Ok.ensures.read, is)) c.left_asked.ensures.printed

pub returns-in-Ok-clause-refused : goal.returns-in-Ok-clause-refused
returns-in-Ok-clause-refused g c = IfErr-weaker c.left_asked.result _ _ (λ fault tells. inr (c.in-Ok.run', c.in-Ok.ensures.read, tells)) c.left_asked.ensures.refused

pub returns-in-Err-clause-refused : goal.returns-in-Err-clause-refused
returns-in-Err-clause-refused g c = inl c.in-Err.ensures.refused
