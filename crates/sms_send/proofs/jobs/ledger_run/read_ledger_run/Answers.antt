use Rattle.std.proofs.Common.{◌∙◌, inl, inr}
use Rattle.std.proofs.lemmas.Result.{IfErr-weaker, IfOk-weaker}
use Rattle.sms_send.proofs.Returned.{run_named}
use Rattle.sms_send.proofs.jobs.ledger_run.read_ledger_run.Goals as goal

pub returns-in-Ok-read_run-clause-run : goal.returns-in-Ok-read_run-clause-run
returns-in-Ok-read_run-clause-run g c =
    let is = run_named (g.R.InputFiles.finds c.args.rt.now) _ _ _ _ c.in-Ok-read_run.files (c.in-Ok.ensures.ok ∙ c.as_str.ensures.value) (c.in-Ok-from_str.ensures.ok ∙ c.as_str-2.ensures.value) c.in-Ok-read_run.ensures.read in
    IfOk-weaker c.ledger_run_of.result _ _ (λ read reads. (c.in-Ok-read_run.files, is, reads)) c.ledger_run_of.ensures.run

pub returns-in-Ok-read_run-clause-refused : goal.returns-in-Ok-read_run-clause-refused
returns-in-Ok-read_run-clause-refused g c =
    let is = run_named (g.R.InputFiles.finds c.args.rt.now) _ _ _ _ c.in-Ok-read_run.files (c.in-Ok.ensures.ok ∙ c.as_str.ensures.value) (c.in-Ok-from_str.ensures.ok ∙ c.as_str-2.ensures.value) c.in-Ok-read_run.ensures.read in
    IfErr-weaker c.ledger_run_of.result _ _ (λ fault fails. inr (inr (c.in-Ok-read_run.files, is, fails))) c.ledger_run_of.ensures.refused

pub returns-in-Err-read_run-clause-refused : goal.returns-in-Err-read_run-clause-refused
returns-in-Err-read_run-clause-refused g c =
    inr (inl (c.in-Ok.config, c.in-Ok-from_str.journal, c.in-Ok.ensures.ok ∙ c.as_str.ensures.value, c.in-Ok-from_str.ensures.ok ∙ c.as_str-2.ensures.value, c.in-Err-read_run.ensures.refused))
