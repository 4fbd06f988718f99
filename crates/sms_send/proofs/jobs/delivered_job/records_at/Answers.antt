use Rattle.std.proofs.lemmas.Result.{IfErr-weaker, IfOk-weaker}
use Rattle.std.specs.Prelude.{string_bytes}
use Rattle.sms_send.proofs.Delivering.{bad_inbox, spelled, unread_inbox}
use Rattle.sms_send.proofs.jobs.delivered_job.records_at.Goals as goal

pub returns-in-Ok-clause-read : goal.returns-in-Ok-clause-read
returns-in-Ok-clause-read g c =
    IfOk-weaker c.records_of.result _ _
    (λ records spells. spelled (g.R.InputFiles.finds c.args.rt.now) (string_bytes c.args.inbox) c.in-Ok.octets.items c.as_slice.result.now records.items c.in-Ok.ensures.octets c.as_slice.ensures.value spells)
    c.records_of.ensures.read

pub returns-in-Ok-clause-refused : goal.returns-in-Ok-clause-refused
returns-in-Ok-clause-refused g c =
    IfErr-weaker c.records_of.result _ _
    (λ fault why. bad_inbox (g.R.InputFiles.finds c.args.rt.now) c.args.inbox c.in-Ok.octets.items c.as_slice.result.now fault c.in-Ok.ensures.octets c.as_slice.ensures.value why)
    c.records_of.ensures.refused

pub returns-in-Err-clause-refused : goal.returns-in-Err-clause-refused
returns-in-Err-clause-refused g c = unread_inbox (g.R.InputFiles.finds c.args.rt.now) c.args.inbox c.in-Err.fault c.in-Err.ensures.refused
