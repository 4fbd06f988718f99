use Rattle.std.proofs.Common.{◌∙◌, inl, inr}
use Rattle.std.proofs.lemmas.Result.{IfErr-weaker, IfOk-weaker}
use Rattle.sms_send.specs.LedgerJobs.{AreDecided, FailsDeciding}
use Rattle.sms_send.specs.PlainFiles.{sees}
use Rattle.sms_send.proofs.Returned.{of_named, unread_journal, untaken_by}
use Rattle.sms_send.proofs.jobs.decide_job.decisions_by.Goals as goal

pub returns-in-Err-clause-refused : goal.returns-in-Err-clause-refused
returns-in-Err-clause-refused g c = inr (untaken_by (sees c.args.order.now.run.refs (g.R.InputFiles.finds c.args.rt.now)) _ _ c.in-Err.fault c.as_str.ensures.value c.in-Err.ensures.refused)

pub returns-in-Err-read_ledger_run-clause-refused : goal.returns-in-Err-read_ledger_run-clause-refused
returns-in-Err-read_ledger_run-clause-refused g c = inl c.in-Err-read_ledger_run.ensures.refused

pub returns-in-Ok-octets_of-clause-decided : goal.returns-in-Ok-octets_of-clause-decided
returns-in-Ok-octets_of-clause-decided g c =
    IfOk-weaker c.decided.result _ _
    (λ ds are. (c.in-Ok.read, c.in-Ok.ensures.run, of_named (sees c.args.order.now.run.refs (g.R.InputFiles.finds c.args.rt.now)) _ _ _ _ (λ octets. AreDecided c.in-Ok.read octets ds.items) (c.in-Ok-from_str.ensures.ok ∙ c.as_str-2.ensures.value) c.in-Ok-octets_of.ensures.octets c.as_slice.ensures.value are))
    c.decided.ensures.decided

pub returns-in-Ok-octets_of-clause-refused : goal.returns-in-Ok-octets_of-clause-refused
returns-in-Ok-octets_of-clause-refused g c =
    IfErr-weaker c.decided.result _ _
    (λ fault fails. inr (inr (inr (inr (c.in-Ok.read, c.in-Ok.ensures.run, of_named (sees c.args.order.now.run.refs (g.R.InputFiles.finds c.args.rt.now)) _ _ _ _ (λ octets. FailsDeciding c.in-Ok.read octets fault) (c.in-Ok-from_str.ensures.ok ∙ c.as_str-2.ensures.value) c.in-Ok-octets_of.ensures.octets c.as_slice.ensures.value fails)))))
    c.decided.ensures.refused

pub returns-in-Err-octets_of-clause-refused : goal.returns-in-Err-octets_of-clause-refused
returns-in-Err-octets_of-clause-refused g c =
    inr (inr (inr (inl (unread_journal (sees c.args.order.now.run.refs (g.R.InputFiles.finds c.args.rt.now)) c.in-Ok-from_str.name _ c.in-Err-octets_of.fault (c.in-Ok-from_str.ensures.ok ∙ c.as_str-2.ensures.value) c.in-Err-octets_of.ensures.refused))))
