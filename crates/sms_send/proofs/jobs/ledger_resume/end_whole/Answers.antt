use Rattle.std.proofs.Common.{◌∙◌, inr, refl}
use Rattle.std.proofs.lemmas.Option.{IfSome_then}
use Rattle.std.proofs.lemmas.Result.{IfErr-weaker, IfOk-weaker}
use Rattle.sms_driver.specs.declared.start_gate.Command.TheVariants.{Go}
use Rattle.sms_driver.specs.declared.start.StartPhase.TheVariants.{Released}
use Rattle.sms_send.proofs.Resuming.{printed_status}
use Rattle.sms_send.proofs.SettledRuns.{failed_with, ok_with, quiet_with, resumed_with, whole_kept}
use Rattle.sms_send.proofs.jobs.ledger_resume.end_whole.Goals as goal

pub returns-clause-ended : goal.returns-clause-ended
returns-clause-ended g c =
    let keeps = whole_kept c.args.strict c.args.read.run (g.W.Write.contents c.args.output.now) (g.W.Write.contents c.print_run-printed.new.output) c.print_run-printed.result c.kept_whole-kept.result c.requires.none (IfSome_then c.kept_whole-kept.result c.kept_whole-kept.ensures.rows (λ kept is. (is.0 ∙ c.in-Ok.ensures ∙ c.as_slice.ensures.value, is.1))) c.kept_whole-kept.ensures.printed c.print_run-printed.ensures.printed c.print_run-printed.ensures.refused in
    resumed_with (g.R.LedgerFiles.holds_ledger c.args.rt.now) (g.R.LedgerFiles.lacks_ledger c.args.rt.now) g.R.LedgerFile.HeldFile.errs g.R.LedgerFile.HeldFile.octets g.R.LedgerFile.HeldFile.stored g.R.LedgerFile.HeldFile.opening g.R.LedgerFile.HeldFile.is_closed c.args.ledger.now _ c.kept_whole-kept.result c.end_going.result c.print_run-printed.result c.args.read _ (g.W.Write.contents c.args.output.now) (g.W.Write.contents c.print_run-printed.new.output) c.end_going.ensures.ended c.print_run-printed.ensures.printed refl refl keeps

pub returns-clause-status : goal.returns-clause-status
returns-clause-status g c = ok_with (g.R.LedgerFiles.holds_ledger c.args.rt.now) (g.R.LedgerFiles.lacks_ledger c.args.rt.now) g.R.LedgerFile.HeldFile.errs g.R.LedgerFile.HeldFile.octets g.R.LedgerFile.HeldFile.stored g.R.LedgerFile.HeldFile.opening g.R.LedgerFile.HeldFile.is_closed c.args.ledger.now _ (Released Go) c.kept_whole-kept.result c.print_run-printed.result c.end_going.result _ c.end_going.ensures.ended (IfOk-weaker c.print_run-printed.result _ _ (λ status prints. printed_status _ _ _ _ status prints) c.print_run-printed.ensures.printed)

pub returns-clause-refused : goal.returns-clause-refused
returns-clause-refused g c =
    let keeps = whole_kept c.args.strict c.args.read.run (g.W.Write.contents c.args.output.now) (g.W.Write.contents c.print_run-printed.new.output) c.print_run-printed.result c.kept_whole-kept.result c.requires.none (IfSome_then c.kept_whole-kept.result c.kept_whole-kept.ensures.rows (λ kept is. (is.0 ∙ c.in-Ok.ensures ∙ c.as_slice.ensures.value, is.1))) c.kept_whole-kept.ensures.printed c.print_run-printed.ensures.printed c.print_run-printed.ensures.refused in
    IfErr-weaker c.end_going.result _ _ (λ fault fails. inr fails) (failed_with (g.R.LedgerFiles.holds_ledger c.args.rt.now) (g.R.LedgerFiles.lacks_ledger c.args.rt.now) g.R.LedgerFile.HeldFile.errs g.R.LedgerFile.HeldFile.octets g.R.LedgerFile.HeldFile.stored g.R.LedgerFile.HeldFile.opening g.R.LedgerFile.HeldFile.is_closed c.args.ledger.now _ c.kept_whole-kept.result c.end_going.result c.print_run-printed.result c.args.read _ _ (g.W.Write.contents c.args.output.now) (g.W.Write.contents c.print_run-printed.new.output) c.end_going.ensures.ended c.print_run-printed.ensures.printed c.print_run-printed.ensures.refused refl refl keeps)

pub returns-clause-unwritten : goal.returns-clause-unwritten
returns-clause-unwritten g c = quiet_with (g.R.LedgerFiles.holds_ledger c.args.rt.now) (g.R.LedgerFiles.lacks_ledger c.args.rt.now) g.R.LedgerFile.HeldFile.errs g.R.LedgerFile.HeldFile.octets g.R.LedgerFile.HeldFile.stored g.R.LedgerFile.HeldFile.opening g.R.LedgerFile.HeldFile.is_closed c.args.ledger.now _ (Released Go) c.kept_whole-kept.result c.print_run-printed.result c.end_going.result _ c.end_going.ensures.ended (IfErr-weaker c.print_run-printed.result _ _ (λ fault quiet other kept. quiet other) c.print_run-printed.ensures.quiet)
