use Rattle.std.proofs.Common.{inl, inr}
use Rattle.std.proofs.lemmas.Result.{IfErr-weaker, IfOk-weaker}
use Rattle.sms_send.proofs.jobs.delivered_job.run_at.Goals as goal

pub returns-in-Ok-read_run-clause-read : goal.returns-in-Ok-read_run-clause-read
returns-in-Ok-read_run-clause-read g c = IfOk-weaker c.journaled.result _ _ (λ run is. (c.in-Ok-read_run.files, c.in-Ok-read_run.ensures.read, is)) c.journaled.ensures.run

pub returns-in-Ok-read_run-clause-refused : goal.returns-in-Ok-read_run-clause-refused
returns-in-Ok-read_run-clause-refused g c =
    IfErr-weaker c.journaled.result _ _ (λ fault why. inr (inr (c.in-Ok-read_run.files, c.in-Ok-read_run.ensures.read, why))) c.journaled.ensures.refused

pub returns-clause-refused : goal.returns-clause-refused
returns-clause-refused g c = inr (inl c.in-Err-read_run.ensures.refused)
