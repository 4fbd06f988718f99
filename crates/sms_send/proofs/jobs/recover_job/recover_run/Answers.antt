use Rattle.std.proofs.Common.{inr, subst, sym}
use Rattle.std.proofs.lemmas.Result.{IfErr-weaker, IfOk-weaker}
use Rattle.sms_send.specs.Statuses.{IsStatus}
use Rattle.sms_send.proofs.jobs.recover_job.recover_run.Goals as goal

pub returns-in-Ok-clause-recovered : goal.returns-in-Ok-clause-recovered
returns-in-Ok-clause-recovered g c = IfOk-weaker c.tell_kind.result _ _ (λ status told. (c.in-Ok.done, c.in-Ok.ensures.recovered, told.0, told.1)) c.tell_kind.ensures.told

pub returns-in-Ok-clause-status : goal.returns-in-Ok-clause-status
returns-in-Ok-clause-status g c = IfOk-weaker c.tell_kind.result _ _ (λ status told. subst IsStatus (sym told.1) c.in-Ok.ensures.status) c.tell_kind.ensures.told

pub returns-in-Ok-clause-refused : goal.returns-in-Ok-clause-refused
returns-in-Ok-clause-refused g c = IfErr-weaker c.tell_kind.result _ _ (λ fault failed. inr (failed.0, c.in-Ok.done, c.in-Ok.ensures.recovered, failed.1)) c.tell_kind.ensures.failed

pub returns-in-Ok-clause-unwritten : goal.returns-in-Ok-clause-unwritten
returns-in-Ok-clause-unwritten g c = IfErr-weaker c.tell_kind.result _ _ (λ fault failed not. absurd (not failed.0)) c.tell_kind.ensures.failed
