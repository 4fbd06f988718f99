use Rattle.std.proofs.Common.{◌≡◌, refl, subst, sym}
use Rattle.sms_journal.specs.Resuming.{run_with_fields}
use Rattle.sms_journal.specs.declared.recovery.resuming.JournaledRun.{JournaledRun}
use Rattle.sms_send.specs.Words.{bytes_of}
use Rattle.sms_send.specs.FieldFiles.{AreFieldsAt}
use Rattle.sms_send.proofs.jobs.resume_job.with_wanted.Goals as goal

pub returns-in-Ok-clause-run : goal.returns-in-Ok-clause-run
returns-in-Ok-clause-run g c = subst (λ (r : JournaledRun). r ≡ run_with_fields r.config.fields c.args.run) (sym c.with_fields.ensures) refl

pub returns-in-Ok-clause-fields : goal.returns-in-Ok-clause-fields
returns-in-Ok-clause-fields g c =
    subst (λ (r : JournaledRun). AreFieldsAt (g.R.InputFiles.finds c.args.rt.now) (bytes_of c.args.wanted.now) r.config.fields) (sym c.with_fields.ensures) c.in-Ok.ensures.read
