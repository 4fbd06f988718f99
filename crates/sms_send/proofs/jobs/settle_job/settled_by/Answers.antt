use Rattle.std.proofs.Common.{inl, inr, subst, List, ℕ}
use Rattle.std.proofs.lemmas.Result.{IfErr-weaker, IfOk-weaker}
use Rattle.std.specs.Prelude.{string_bytes}
use Rattle.sms_send.specs.LedgerJobs.{FailsReadingJournal, FailsSettling, SettlesRun}
use Rattle.sms_send.specs.PlainFiles.{sees}
use Rattle.sms_send.proofs.jobs.settle_job.settled_by.Goals as goal

pub returns-in-Err-clause-refused : goal.returns-in-Err-clause-refused
returns-in-Err-clause-refused g c = inl (subst (λ (n : List ℕ). FailsReadingJournal (sees c.args.order.now.refs (g.R.InputFiles.finds c.args.rt.now)) n c.in-Err.fault) c.as_str.ensures.value c.in-Err.ensures.refused)

pub returns-in-Ok-clause-settled : goal.returns-in-Ok-clause-settled
returns-in-Ok-clause-settled g c =
    IfOk-weaker c.settled.result _ _
    (λ lines is. inr (c.in-Ok.read, c.in-Ok.ensures.run, subst (λ (n : List ℕ). SettlesRun (g.R.LedgerFiles.holds_ledger c.args.rt.now) g.R.LedgerFile.HeldFile.octets g.R.LedgerFile.HeldFile.stored g.R.LedgerFile.HeldFile.opening g.R.LedgerFile.HeldFile.is_closed n c.in-Ok.read (string_bytes lines)) c.as_str-in-Ok.ensures.value is)) c.settled.ensures.settled

pub returns-in-Ok-clause-refused : goal.returns-in-Ok-clause-refused
returns-in-Ok-clause-refused g c =
    IfErr-weaker c.settled.result _ _
    (λ fault fails. inr (inr (c.in-Ok.read, c.in-Ok.ensures.run, subst (λ (n : List ℕ). FailsSettling (g.R.LedgerFiles.holds_ledger c.args.rt.now) (g.R.LedgerFiles.lacks_ledger c.args.rt.now) g.R.LedgerFile.HeldFile.errs g.R.LedgerFile.HeldFile.octets g.R.LedgerFile.HeldFile.opening g.R.LedgerFile.HeldFile.is_closed n c.in-Ok.read fault) c.as_str-in-Ok.ensures.value fails))) c.settled.ensures.refused

pub returns-in-Err-read_ledger_run-clause-refused : goal.returns-in-Err-read_ledger_run-clause-refused
returns-in-Err-read_ledger_run-clause-refused g c = inr (inl c.in-Err-read_ledger_run.ensures.refused)
