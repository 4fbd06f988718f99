use Rattle.std.proofs.Common.{◌∙◌, inl, inr, refl, sym}
use Rattle.std.proofs.lemmas.Result.{IfErr-weaker}
use Rattle.sms_send.specs.PlainFiles.{sees}
use Rattle.sms_send.proofs.FieldFiles.{runs_fielded}
use Rattle.sms_send.proofs.jobs.resume_job.read_journaled.Goals as goal

pub returns-in-Ok-run-clause-run : goal.returns-in-Ok-run-clause-run
returns-in-Ok-run-clause-run g c =
    runs_fielded (sees c.args.order.now.refs (g.R.InputFiles.finds c.args.rt.now)) c.args.order.now c.in-Ok.files c.in-Ok-run.run' c.with_wanted.result c.in-Ok.ensures.read (sym c.is_some.ensures ∙ c.if-is_some.false) c.in-Ok-run.ensures.run c.with_wanted.ensures.run c.with_wanted.ensures.fields

pub returns-in-Ok-run-clause-refused : goal.returns-in-Ok-run-clause-refused
returns-in-Ok-run-clause-refused g c = IfErr-weaker c.with_wanted.result _ _ (λ fault fails. inr (inr fails)) c.with_wanted.ensures.refused

pub returns-in-Err-run-clause-refused : goal.returns-in-Err-run-clause-refused
returns-in-Err-run-clause-refused g c = inr (inl (c.in-Ok.files, c.in-Ok.ensures.read, inl c.in-Err-run.ensures.refused))

pub returns-in-Err-clause-refused : goal.returns-in-Err-clause-refused
returns-in-Err-clause-refused g c = inl c.in-Err.ensures.refused

pub returns-then-is_some-clause-refused : goal.returns-then-is_some-clause-refused
returns-then-is_some-clause-refused g c = inr (inl (c.in-Ok.files, c.in-Ok.ensures.read, inr (refl, sym c.is_some.ensures ∙ c.if-is_some.true)))
