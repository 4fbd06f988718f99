use Rattle.std.proofs.Common.{inl, inr, refl, subst}
use Rattle.std.proofs.lemmas.Result.{IfErr-weaker}
use Rattle.sms_send.proofs.LedgerPhases.{begins_at, lacks_at}
use Rattle.sms_send.proofs.LedgerSends.{fails_on_credits, sends_ledger}
use Rattle.sms_send.proofs.OfKinds.{on_any}
use Rattle.sms_send.proofs.SettledRuns.{ok_with, on_with, phase_with, quiet_with}
use Rattle.sms_send.proofs.Telling.{told_so}
use Rattle.sms_send.proofs.jobs.ledger_send.send_on.Goals as goal

pub returns-in_err-file-clause-refused : goal.returns-in_err-file-clause-refused
returns-in_err-file-clause-refused g c = told_so c.from_residual.result _ _ c.from_residual.ensures.1 (inl c.in_err-file.ensures.refused)

pub returns-in_err-file-clause-phase : goal.returns-in_err-file-clause-phase
returns-in_err-file-clause-phase g c = told_so c.from_residual.result _ _ c.from_residual.ensures.1 (lacks_at _ c.requires.not_started (g.R.LedgerFiles.lacks_ledger c.args.sending.now.rt.now) _ _ c.in_err-file.ensures.refused)

pub returns-in_err-file-clause-unwritten : goal.returns-in_err-file-clause-unwritten
returns-in_err-file-clause-unwritten g c = told_so c.from_residual.result _ _ c.from_residual.ensures.1 (λ other kept settled. refl)

pub returns-in_err-debtor-clause-refused : goal.returns-in_err-debtor-clause-refused
returns-in_err-debtor-clause-refused g c =
    told_so c.from_residual-in_err-debtor.result _ _ c.from_residual-in_err-debtor.ensures.1
    (inr (inl (record { first = c.in_ok-file.file; last = c.begin_on-begun.new.file; opened = record { held = c.in_ok-file.ensures.held; same = c.begin_on-begun.ensures.same; closed = c.close.ensures }; done = c.in_err-debtor.ensures.failed })))

pub returns-in_err-debtor-clause-phase : goal.returns-in_err-debtor-clause-phase
returns-in_err-debtor-clause-phase g c =
    told_so c.from_residual-in_err-debtor.result _ _ c.from_residual-in_err-debtor.ensures.1
    (begins_at _ c.requires.not_started (g.R.JournalFiles.makes c.args.sending.now.rt.now) (g.R.JournalFiles.refuses c.args.sending.now.rt.now) (g.R.JournalFiles.holds c.args.sending.now.rt.now) c.args.wanted.now g.R.LedgerFile.HeldFile.errs g.R.LedgerFile.HeldFile.octets c.args.read c.args.named c.args.sending.now.strict c.in_ok-file.file c.begin_on-begun.new.file _ c.in_err-debtor.ensures.failed)

pub returns-in_err-debtor-clause-unwritten : goal.returns-in_err-debtor-clause-unwritten
returns-in_err-debtor-clause-unwritten g c = told_so c.from_residual-in_err-debtor.result _ _ c.from_residual-in_err-debtor.ensures.1 (λ other kept settled. refl)

pub returns-clause-sent : goal.returns-clause-sent
returns-clause-sent g c =
    sends_ledger (g.R.JournalFiles.makes c.args.sending.now.rt.now) g.R.JournalFile.Write.contents (g.R.Connects.tells c.args.sending.now.rt.now) c.args.kind (g.R.LedgerFiles.holds_ledger c.args.sending.now.rt.now) (g.R.LedgerFiles.lacks_ledger c.args.sending.now.rt.now) g.R.LedgerFile.HeldFile.errs g.R.LedgerFile.HeldFile.octets g.R.LedgerFile.HeldFile.stored g.R.LedgerFile.HeldFile.opening g.R.LedgerFile.HeldFile.is_closed c.args.ledger.now c.args.sending.now.again c.args.sending.now.strict c.args.read c.args.named c.args.wanted.now _ c.requires.centre c.in_ok-file.file c.begin_on-begun.new.file c.in_ok-debtor.field-0 (record { held = c.in_ok-file.ensures.held; same = c.begin_on-begun.ensures.same; closed = c.close.ensures }) c.in_ok-debtor.ensures.begun c.run_in_file-sent.new.start.begun c.begun.result c.begun.ensures c.run_in_file-sent.new.kept (g.W.Write.contents c.args.output.now) (g.W.Write.contents c.run_in_file-sent.new.output) _ _ c.end_on.result c.run_in_file-sent.result
    c.run_in_file-sent.ensures.ended c.run_in_file-sent.ensures.noted c.run_in_file-sent.ensures.kept c.end_on.ensures.ended

pub returns-clause-kind : goal.returns-clause-kind
returns-clause-kind g c = on_any c.end_on.result (subst (λ kind. g.R.LedgerFiles.has_kind c.args.sending.now.rt.now c.args.ledger.now kind) c.ledger_kind.ensures c.in_ok-file.ensures.kind)

pub returns-clause-status : goal.returns-clause-status
returns-clause-status g c = ok_with (g.R.LedgerFiles.holds_ledger c.args.sending.now.rt.now) (g.R.LedgerFiles.lacks_ledger c.args.sending.now.rt.now) g.R.LedgerFile.HeldFile.errs g.R.LedgerFile.HeldFile.octets g.R.LedgerFile.HeldFile.stored g.R.LedgerFile.HeldFile.opening g.R.LedgerFile.HeldFile.is_closed c.args.ledger.now _ c.begun.result c.run_in_file-sent.new.kept c.run_in_file-sent.result c.end_on.result _ c.end_on.ensures.ended c.run_in_file-sent.ensures.ended.status

pub returns-clause-started : goal.returns-clause-started
returns-clause-started g c = on_with (g.R.LedgerFiles.holds_ledger c.args.sending.now.rt.now) (g.R.LedgerFiles.lacks_ledger c.args.sending.now.rt.now) g.R.LedgerFile.HeldFile.errs g.R.LedgerFile.HeldFile.octets g.R.LedgerFile.HeldFile.stored g.R.LedgerFile.HeldFile.opening g.R.LedgerFile.HeldFile.is_closed c.args.ledger.now _ c.begun.result c.run_in_file-sent.new.kept c.run_in_file-sent.result c.end_on.result _ c.end_on.ensures.ended c.run_in_file-sent.ensures.ended.started

pub returns-clause-refused : goal.returns-clause-refused
returns-clause-refused g c =
    IfErr-weaker c.end_on.result _ _ (λ fault fails. inr (inr fails))
    (fails_on_credits (g.R.JournalFiles.makes c.args.sending.now.rt.now) g.R.JournalFile.Write.contents (g.R.Connects.tells c.args.sending.now.rt.now) c.args.kind (g.R.LedgerFiles.holds_ledger c.args.sending.now.rt.now) (g.R.LedgerFiles.lacks_ledger c.args.sending.now.rt.now) g.R.LedgerFile.HeldFile.errs g.R.LedgerFile.HeldFile.octets g.R.LedgerFile.HeldFile.stored g.R.LedgerFile.HeldFile.opening g.R.LedgerFile.HeldFile.is_closed c.args.ledger.now c.args.sending.now.again c.args.sending.now.strict c.args.read c.args.named c.args.wanted.now _ c.requires.centre c.in_ok-file.file c.begin_on-begun.new.file c.in_ok-debtor.field-0 (record { held = c.in_ok-file.ensures.held; same = c.begin_on-begun.ensures.same; closed = c.close.ensures }) c.in_ok-debtor.ensures.begun c.run_in_file-sent.new.start.begun c.begun.result c.begun.ensures c.run_in_file-sent.new.kept (g.W.Write.contents c.args.output.now) (g.W.Write.contents c.run_in_file-sent.new.output) _ _ c.end_on.result c.run_in_file-sent.result
    c.run_in_file-sent.ensures.ended c.run_in_file-sent.ensures.kept c.end_on.ensures.ended)

pub returns-clause-phase : goal.returns-clause-phase
returns-clause-phase g c = phase_with (g.R.LedgerFiles.holds_ledger c.args.sending.now.rt.now) (g.R.LedgerFiles.lacks_ledger c.args.sending.now.rt.now) g.R.LedgerFile.HeldFile.errs g.R.LedgerFile.HeldFile.octets g.R.LedgerFile.HeldFile.stored g.R.LedgerFile.HeldFile.opening g.R.LedgerFile.HeldFile.is_closed c.args.ledger.now _ c.begun.result c.run_in_file-sent.new.kept c.run_in_file-sent.result c.end_on.result _ c.end_on.ensures.ended c.run_in_file-sent.ensures.ended.phase c.run_in_file-sent.ensures.ended.started

pub returns-clause-unwritten : goal.returns-clause-unwritten
returns-clause-unwritten g c = quiet_with (g.R.LedgerFiles.holds_ledger c.args.sending.now.rt.now) (g.R.LedgerFiles.lacks_ledger c.args.sending.now.rt.now) g.R.LedgerFile.HeldFile.errs g.R.LedgerFile.HeldFile.octets g.R.LedgerFile.HeldFile.stored g.R.LedgerFile.HeldFile.opening g.R.LedgerFile.HeldFile.is_closed c.args.ledger.now _ c.begun.result c.run_in_file-sent.new.kept c.run_in_file-sent.result c.end_on.result _ c.end_on.ensures.ended c.run_in_file-sent.ensures.ended.unwritten
