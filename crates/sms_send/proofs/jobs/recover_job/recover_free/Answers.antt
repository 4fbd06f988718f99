use Rattle.std.proofs.Common.{inl, inr}
use Rattle.std.proofs.lemmas.Result.{IfErr-weaker, IfOk-weaker}
use Rattle.sms_send.proofs.Recovering.{on_ok}
use Rattle.sms_send.proofs.jobs.recover_job.recover_free.Goals as goal

pub returns-in-Ok-read_run-clause-recovered : goal.returns-in-Ok-read_run-clause-recovered
returns-in-Ok-read_run-clause-recovered g c = IfOk-weaker c.recover_run.result _ _ (λ status is. (c.in-Ok-read_run.run', c.in-Ok-read_run.ensures.read, is.0, is.1, is.3)) c.recover_run.ensures.recovered

pub returns-in-Ok-read_run-clause-beside : goal.returns-in-Ok-read_run-clause-beside
returns-in-Ok-read_run-clause-beside g c =
    on_ok c.recover_run.result (λ status is. record { run = c.in-Ok-read_run.run'; is = c.in-Ok-read_run.ensures.read; recovered = is.0; recovers = is.1; told = is.2 }) c.recover_run.ensures.recovered

pub returns-in-Ok-read_run-clause-refused : goal.returns-in-Ok-read_run-clause-refused
returns-in-Ok-read_run-clause-refused g c = IfErr-weaker c.recover_run.result _ _ (λ fault tells. inr (c.in-Ok-read_run.run', c.in-Ok-read_run.ensures.read, tells)) c.recover_run.ensures.refused

pub returns-clause-refused : goal.returns-clause-refused
returns-clause-refused g c = inl c.in-Err-read_run.ensures.refused
