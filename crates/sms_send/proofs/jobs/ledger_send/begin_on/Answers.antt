use Rattle.std.proofs.Common.{rules}
use Rattle.sms_ledger.specs.InMemory.{state_in}
use Rattle.sms_send.specs.LedgerSendings.{FailsHead}
use Rattle.sms_send.proofs.Planning.{begins, unheaded, unnoted, unread, untaken, without_plan}
use Rattle.sms_send.proofs.Telling.{told_so}
use Rattle.sms_send.proofs.jobs.ledger_send.begin_on.Goals as goal

pub returns-in_err-found-clause-failed : goal.returns-in_err-found-clause-failed
returns-in_err-found-clause-failed g c = told_so c.from_residual.result _ _ c.from_residual.ensures.1 (unread (FailsHead (g.R.JournalFiles.makes c.args.rt.now) (g.R.JournalFiles.refuses c.args.rt.now) (g.R.JournalFiles.holds c.args.rt.now) c.args.wanted.now) g.R.LedgerFile.HeldFile.errs g.R.LedgerFile.HeldFile.octets c.args.read c.args.named c.args.strict c.args.file.now _ c.in_err-found.ensures.refused)

pub returns-in_err-noted-clause-failed : goal.returns-in_err-noted-clause-failed
returns-in_err-noted-clause-failed g c = told_so c.from_residual-in_err-noted.result _ _ c.from_residual-in_err-noted.ensures.1 (unnoted (FailsHead (g.R.JournalFiles.makes c.args.rt.now) (g.R.JournalFiles.refuses c.args.rt.now) (g.R.JournalFiles.holds c.args.rt.now) c.args.wanted.now) g.R.LedgerFile.HeldFile.errs g.R.LedgerFile.HeldFile.octets c.args.read c.args.named c.args.strict c.args.file.now _ _ _ c.in_ok-found.ensures.read c.in_err-noted.ensures.refused)

pub returns-in_err-plan-clause-failed : goal.returns-in_err-plan-clause-failed
returns-in_err-plan-clause-failed g c =
    told_so c.from_residual-in_err-plan.result _ _ c.from_residual-in_err-plan.ensures.1 (without_plan (FailsHead (g.R.JournalFiles.makes c.args.rt.now) (g.R.JournalFiles.refuses c.args.rt.now) (g.R.JournalFiles.holds c.args.rt.now) c.args.wanted.now) g.R.LedgerFile.HeldFile.errs g.R.LedgerFile.HeldFile.octets c.args.read c.args.named c.args.strict c.args.file.now _ _ _ c.unix_ms.result _ c.in_ok-noted.noted.input _ c.as_slice-2.ensures.value c.in_ok-found.ensures.read c.in_err-plan.ensures.refused)

pub returns-in_err-journal-clause-failed : goal.returns-in_err-journal-clause-failed
returns-in_err-journal-clause-failed g c = told_so c.from_residual-in_err-journal.result _ _ c.from_residual-in_err-journal.ensures.1 (unheaded (FailsHead (g.R.JournalFiles.makes c.args.rt.now) (g.R.JournalFiles.refuses c.args.rt.now) (g.R.JournalFiles.holds c.args.rt.now) c.args.wanted.now) g.R.LedgerFile.HeldFile.errs g.R.LedgerFile.HeldFile.octets c.args.read c.args.named c.args.strict c.args.file.now _ c.in_err-journal.ensures.refused)

pub returns-in_err-put_lines-clause-failed : goal.returns-in_err-put_lines-clause-failed
returns-in_err-put_lines-clause-failed g c =
    told_so c.from_residual-in_err-put_lines.result _ _ c.from_residual-in_err-put_lines.ensures.1 (untaken (FailsHead (g.R.JournalFiles.makes c.args.rt.now) (g.R.JournalFiles.refuses c.args.rt.now) (g.R.JournalFiles.holds c.args.rt.now) c.args.wanted.now) g.R.LedgerFile.HeldFile.errs g.R.LedgerFile.HeldFile.octets c.args.read c.args.named c.args.strict c.args.file.now c.put_lines.new.file _ _ _ _ _ c.as_slice-5.ensures.value c.in_ok-found.ensures.read c.in_err-put_lines.ensures.failed)

pub returns-clause-begun : goal.returns-clause-begun
returns-clause-begun g c =
    begins (g.R.JournalFiles.makes c.args.rt.now) g.R.JournalFile.Write.contents g.R.LedgerFile.HeldFile.octets g.R.LedgerFile.HeldFile.stored c.args.read c.args.named c.args.wanted.now c.args.strict c.args.file.now c.put_lines.new.file _ _ c.in_ok-found.ensures.read
    (state_in c.planned.new.ledger) c.unix_ms.result _ _ _ _ _ _ _ _ _ _ (search rules) c.as_slice-2.ensures.value c.as_slice-5.ensures.value c.as_slice.ensures.value c.as_slice-3.ensures.value c.as_slice-4.ensures.value
    c.in_ok-noted.ensures.read c.in_ok-plan.ensures.planned c.in_ok-journal.ensures.made c.in_ok-put_lines.ensures.stand c.in_ok-put_lines.ensures.durable
