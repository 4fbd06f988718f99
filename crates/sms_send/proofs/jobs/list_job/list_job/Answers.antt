use Rattle.std.proofs.Common.{inr}
use Rattle.std.proofs.lemmas.Result.{IfErr-weaker}
use Rattle.sms_send.proofs.jobs.list_job.list_job.Goals as goal

pub returns-clause-refused : goal.returns-clause-refused
returns-clause-refused g c = IfErr-weaker c.list_free.result _ _ (λ fault tells. inr tells) c.list_free.ensures.refused
