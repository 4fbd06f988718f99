use Rattle.std.proofs.Common.{inr, refl}
use Rattle.std.proofs.lemmas.Result.{IfErr-weaker}
use Rattle.sms_driver.specs.declared.start_gate.Command.TheVariants.{Go}
use Rattle.sms_driver.specs.declared.start.StartPhase.TheVariants.{Released}
use Rattle.sms_send.proofs.Resuming.{on_ok_weaker}
use Rattle.sms_send.proofs.SettledRuns.{failed_with, goes_with, ok_with, on_with, otherwise, phase_with, quiet_with, resumed_with, stops_with}
use Rattle.sms_send.proofs.jobs.ledger_resume.go_on.Goals as goal

pub returns-in-Err-clause-refused : goal.returns-in-Err-clause-refused
returns-in-Err-clause-refused g c = otherwise c.in-Err.ensures.refused

pub returns-clause-ended : goal.returns-clause-ended
returns-clause-ended g c =
    let goes = goes_with g.R.JournalFile.Write.contents (g.R.JournalFiles.opens c.args.rt.now) (g.R.Connects.tells c.args.rt.now) (g.R.LedgerFiles.holds_ledger c.args.rt.now) g.R.LedgerFile.HeldFile.octets c.args.ledger.now c.args.order.now c.args.read c.args.before _ (g.W.Write.contents c.args.output.now) (g.W.Write.contents c.resume_run-sent.new.output) c.saturating_add.ensures c.resume_run-sent.result c.in_default.ensures.out c.requires.some c.resume_run-sent.ensures.ended.sent c.resume_run-sent.ensures.noted in
    resumed_with (g.R.LedgerFiles.holds_ledger c.args.rt.now) (g.R.LedgerFiles.lacks_ledger c.args.rt.now) g.R.LedgerFile.HeldFile.errs g.R.LedgerFile.HeldFile.octets g.R.LedgerFile.HeldFile.stored g.R.LedgerFile.HeldFile.opening g.R.LedgerFile.HeldFile.is_closed c.args.ledger.now _ c.resume_run-sent.new.kept c.end_going.result c.resume_run-sent.result c.args.read _ (g.W.Write.contents c.args.output.now) (g.W.Write.contents c.resume_run-sent.new.output) c.end_going.ensures.ended goes refl refl c.resume_run-sent.ensures.kept

pub returns-clause-status : goal.returns-clause-status
returns-clause-status g c = ok_with (g.R.LedgerFiles.holds_ledger c.args.rt.now) (g.R.LedgerFiles.lacks_ledger c.args.rt.now) g.R.LedgerFile.HeldFile.errs g.R.LedgerFile.HeldFile.octets g.R.LedgerFile.HeldFile.stored g.R.LedgerFile.HeldFile.opening g.R.LedgerFile.HeldFile.is_closed c.args.ledger.now _ (Released Go) c.resume_run-sent.new.kept c.resume_run-sent.result c.end_going.result _ c.end_going.ensures.ended c.resume_run-sent.ensures.ended.status

pub returns-clause-started : goal.returns-clause-started
returns-clause-started g c = on_ok_weaker c.end_going.result _ _ (λ go. inr go) (on_with (g.R.LedgerFiles.holds_ledger c.args.rt.now) (g.R.LedgerFiles.lacks_ledger c.args.rt.now) g.R.LedgerFile.HeldFile.errs g.R.LedgerFile.HeldFile.octets g.R.LedgerFile.HeldFile.stored g.R.LedgerFile.HeldFile.opening g.R.LedgerFile.HeldFile.is_closed c.args.ledger.now _ (Released Go) c.resume_run-sent.new.kept c.resume_run-sent.result c.end_going.result _ c.end_going.ensures.ended c.resume_run-sent.ensures.ended.started)

pub returns-clause-refused : goal.returns-clause-refused
returns-clause-refused g c =
    let goes = goes_with g.R.JournalFile.Write.contents (g.R.JournalFiles.opens c.args.rt.now) (g.R.Connects.tells c.args.rt.now) (g.R.LedgerFiles.holds_ledger c.args.rt.now) g.R.LedgerFile.HeldFile.octets c.args.ledger.now c.args.order.now c.args.read c.args.before _ (g.W.Write.contents c.args.output.now) (g.W.Write.contents c.resume_run-sent.new.output) c.saturating_add.ensures c.resume_run-sent.result c.in_default.ensures.out c.requires.some c.resume_run-sent.ensures.ended.sent c.resume_run-sent.ensures.noted in
    let stops = stops_with g.R.JournalFile.Write.contents (g.R.JournalFiles.opens c.args.rt.now) (g.R.Connects.tells c.args.rt.now) (g.R.LedgerFiles.holds_ledger c.args.rt.now) g.R.LedgerFile.HeldFile.octets c.args.ledger.now c.args.order.now c.args.read c.args.before _ (g.W.Write.contents c.args.output.now) (g.W.Write.contents c.resume_run-sent.new.output) c.saturating_add.ensures c.resume_run-sent.result c.resume_run-sent.ensures.ended.refused in
    IfErr-weaker c.end_going.result _ _ (λ fault fails. inr (inr (c.in_default.ensures.out, fails))) (failed_with (g.R.LedgerFiles.holds_ledger c.args.rt.now) (g.R.LedgerFiles.lacks_ledger c.args.rt.now) g.R.LedgerFile.HeldFile.errs g.R.LedgerFile.HeldFile.octets g.R.LedgerFile.HeldFile.stored g.R.LedgerFile.HeldFile.opening g.R.LedgerFile.HeldFile.is_closed c.args.ledger.now _ c.resume_run-sent.new.kept c.end_going.result c.resume_run-sent.result c.args.read _ _ (g.W.Write.contents c.args.output.now) (g.W.Write.contents c.resume_run-sent.new.output) c.end_going.ensures.ended goes stops refl refl c.resume_run-sent.ensures.kept)

pub returns-clause-phase : goal.returns-clause-phase
returns-clause-phase g c =
    IfErr-weaker c.end_going.result _ _ (λ fault comes. inr comes) (phase_with (g.R.LedgerFiles.holds_ledger c.args.rt.now) (g.R.LedgerFiles.lacks_ledger c.args.rt.now) g.R.LedgerFile.HeldFile.errs g.R.LedgerFile.HeldFile.octets g.R.LedgerFile.HeldFile.stored g.R.LedgerFile.HeldFile.opening g.R.LedgerFile.HeldFile.is_closed c.args.ledger.now _ (Released Go) c.resume_run-sent.new.kept c.resume_run-sent.result c.end_going.result _ c.end_going.ensures.ended c.resume_run-sent.ensures.ended.phase c.resume_run-sent.ensures.ended.started)

pub returns-clause-unwritten : goal.returns-clause-unwritten
returns-clause-unwritten g c = quiet_with (g.R.LedgerFiles.holds_ledger c.args.rt.now) (g.R.LedgerFiles.lacks_ledger c.args.rt.now) g.R.LedgerFile.HeldFile.errs g.R.LedgerFile.HeldFile.octets g.R.LedgerFile.HeldFile.stored g.R.LedgerFile.HeldFile.opening g.R.LedgerFile.HeldFile.is_closed c.args.ledger.now _ (Released Go) c.resume_run-sent.new.kept c.resume_run-sent.result c.end_going.result _ c.end_going.ensures.ended c.resume_run-sent.ensures.ended.unwritten
