use Rattle.std.proofs.Common.{◌∙◌, ap, inl, inr, refl}
use Rattle.sms_send.proofs.FieldFiles.{ledger_run_fielded}
use Rattle.sms_send.specs.PlainFiles.{sees}
use Rattle.sms_send.specs.declared.jobs.ledger_run.LedgerRun.{LedgerRun as TheRun}
use Rattle.sms_send.proofs.Returned.{untaken_by}
use Rattle.sms_send.proofs.jobs.ledger_resume.read_going.Goals as goal

pub returns-in-Err-clause-refused : goal.returns-in-Err-clause-refused
returns-in-Err-clause-refused g c = untaken_by (sees c.args.order.now.refs (g.R.InputFiles.finds c.args.rt.now)) _ _ c.in-Err.fault c.as_str.ensures.value c.in-Err.ensures.refused

pub returns-in-Err-ledger_run_of-clause-refused : goal.returns-in-Err-ledger_run_of-clause-refused
returns-in-Err-ledger_run_of-clause-refused g c = inr (inr (inr (inl (c.in-Ok.files, c.in-Ok.ensures.read, inl c.in-Err-ledger_run_of.ensures.refused))))

pub returns-in-Trial-clause-refused : goal.returns-in-Trial-clause-refused
returns-in-Trial-clause-refused g c = inr (inr (inr (inl (c.in-Ok.files, c.in-Ok.ensures.read, inr (refl, (c.in-Ok-ledger_run_of.read.run, c.in-Ok-ledger_run_of.ensures.run.journaled, c.in-Trial.is))))))

pub returns-in-Ok-with_its_fields-clause-read : goal.returns-in-Ok-with_its_fields-clause-read
returns-in-Ok-with_its_fields-clause-read g c =
    (c.in-Ok.files, c.in-Ok.ensures.read, ledger_run_fielded c.in-Ok.files c.in-Ok-ledger_run_of.read c.in-Ok-with_its_fields.read c.in-Ok-with_its_fields.ensures.run c.in-Ok-ledger_run_of.ensures.run, refl, ap (λ (r : TheRun). r.run.kind) c.in-Ok-with_its_fields.ensures.run ∙ c.in-Run.is, c.in-Ok-with_its_fields.ensures.fields)

pub returns-clause-refused : goal.returns-clause-refused
returns-clause-refused g c = inr (inr (inr (inr c.in-Err-with_its_fields.ensures.refused)))
