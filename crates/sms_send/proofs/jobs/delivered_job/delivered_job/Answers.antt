use Rattle.std.proofs.Common.{inr}
use Rattle.std.proofs.lemmas.Result.{IfErr-weaker}
use Rattle.sms_send.proofs.jobs.delivered_job.delivered_job.Goals as goal

pub returns-clause-refused : goal.returns-clause-refused
returns-clause-refused g c = IfErr-weaker c.deliver_free.result _ _ (λ fault why. inr why) c.deliver_free.ensures.refused
