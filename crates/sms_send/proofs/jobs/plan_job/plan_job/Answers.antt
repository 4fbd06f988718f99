use Rattle.std.proofs.Common.{inr}
use Rattle.std.specs.Prelude.{string_bytes}
use Rattle.std.proofs.lemmas.Result.{IfErr-weaker}
use Rattle.sms_files.specs.Fields.{records_of}
use Rattle.sms_send.specs.Plans.{FailsPlan}
use Rattle.sms_send.specs.PlainFiles.{left_in, sees}
use Rattle.sms_send.proofs.Plans.{unread-plan}
use Rattle.sms_send.proofs.Sendings.{beside}
use Rattle.sms_send.proofs.jobs.plan_job.plan_job.Goals as goal

pub returns-in-Ok-whole_of-clause-refused : goal.returns-in-Ok-whole_of-clause-refused
returns-in-Ok-whole_of-clause-refused g c =
    IfErr-weaker c.plan_octets.result _ _
    (λ fault tells. inr (beside (sees c.args.refs (g.R.InputFiles.finds c.args.rt.now)) (string_bytes c.args.name) c.in-Ok-whole_of.octets.items c.as_slice.result.now (λ bytes. FailsPlan (records_of bytes) fault)
    ((left_in g.R.InputFile.Read.remaining) c.in-Ok.file, c.in-Ok.ensures.found, c.in-Ok-whole_of.ensures.octets) c.as_slice.ensures.value tells))
    c.plan_octets.ensures.refused

pub returns-in-Err-whole_of-clause-refused : goal.returns-in-Err-whole_of-clause-refused
returns-in-Err-whole_of-clause-refused g c =
    inr (unread-plan (sees c.args.refs (g.R.InputFiles.finds c.args.rt.now)) (string_bytes c.args.name) ((left_in g.R.InputFile.Read.remaining) c.in-Ok.file) c.in-Err-whole_of.fault c.in-Ok.ensures.found c.in-Err-whole_of.ensures.refused)
