use Rattle.std.proofs.Common.{ap, subst, sym, IfOk}
use Rattle.std.proofs.lemmas.Result.{IfOk-weaker}
use Rattle.sms_journal.specs.Left.{count_left}
use Rattle.sms_send.specs.Sent.{PrintsSent}
use Rattle.sms_send.specs.Statuses.{status_by}
use Rattle.sms_send.specs.declared.sending.work.SentWork.{SentWork}
use Rattle.sms_send.specs.declared.sending.work.SentWork.TheVariants.{Resumed, Whole}
use Rattle.sms_send.proofs.Keeping.{kept_so, printed_so, same_report}
use Rattle.sms_send.proofs.sending.Sending.print_sent.Goals as goal

pub returns-in-Whole-clause-kept : goal.returns-in-Whole-clause-kept
returns-in-Whole-clause-kept g c =
    kept_so (Whole c.in-Whole.ended) _ _ _ _ _ c.print-status.result c.kept_of.result c.statement-statement.ensures (ap count_left c.ends-ends.ensures)
    (same_report _ _ _ _ _ _ c.openings-openings.ensures c.ends-ends.ensures c.statement-statement.ensures) c.kept_of.ensures.rows c.kept_of.ensures.printed
    (IfOk-weaker c.print-status.result _ _ (λ status printed. printed.0) c.print-status.ensures.printed) c.print-status.ensures.front

pub returns-in-Whole-clause-printed : goal.returns-in-Whole-clause-printed
returns-in-Whole-clause-printed g c =
    subst (λ (sent : SentWork). IfOk c.print-status.result (PrintsSent c.args.self.now.strict sent (g.W.Write.contents c.args.output.now) (g.W.Write.contents c.print-status.new.output))) (sym c.in-Whole.is)
    (printed_so (Whole c.in-Whole.ended) c.args.self.now.strict _ _ _ _ c.print-status.result (same_report _ _ _ _ _ _ c.openings-openings.ensures c.ends-ends.ensures c.statement-statement.ensures)
    (ap (status_by c.args.self.now.strict) c.ends-ends.ensures) c.print-status.ensures.printed)

pub returns-in-Resumed-clause-kept : goal.returns-in-Resumed-clause-kept
returns-in-Resumed-clause-kept g c =
    kept_so (Resumed c.in-Resumed.run') _ _ _ _ _ c.print-status-in-Resumed.result c.kept_of-in-Resumed.result c.statement-statement-in-Resumed.ensures (ap count_left c.ends-ends-in-Resumed.ensures)
    (same_report _ _ _ _ _ _ c.openings-openings-in-Resumed.ensures c.ends-ends-in-Resumed.ensures c.statement-statement-in-Resumed.ensures) c.kept_of-in-Resumed.ensures.rows c.kept_of-in-Resumed.ensures.printed
    (IfOk-weaker c.print-status-in-Resumed.result _ _ (λ status printed. printed.0) c.print-status-in-Resumed.ensures.printed) c.print-status-in-Resumed.ensures.front

pub returns-in-Resumed-clause-printed : goal.returns-in-Resumed-clause-printed
returns-in-Resumed-clause-printed g c =
    subst (λ (sent : SentWork). IfOk c.print-status-in-Resumed.result (PrintsSent c.args.self.now.strict sent (g.W.Write.contents c.args.output.now) (g.W.Write.contents c.print-status-in-Resumed.new.output))) (sym c.in-Resumed.is)
    (printed_so (Resumed c.in-Resumed.run') c.args.self.now.strict _ _ _ _ c.print-status-in-Resumed.result (same_report _ _ _ _ _ _ c.openings-openings-in-Resumed.ensures c.ends-ends-in-Resumed.ensures c.statement-statement-in-Resumed.ensures)
    (ap (status_by c.args.self.now.strict) c.ends-ends-in-Resumed.ensures) c.print-status-in-Resumed.ensures.printed)
