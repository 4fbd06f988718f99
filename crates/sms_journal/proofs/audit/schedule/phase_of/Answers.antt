use Rattle.std.proofs.Common.{◌∙◌, sym}
use Rattle.sms_journal.proofs.LastAnswers.{come_to_last}
use Rattle.sms_journal.proofs.audit.schedule.phase_of.Goals as goal

pub returns-in-Some : goal.returns-in-Some
returns-in-Some c = c.phase_of_last.ensures ∙ sym (come_to_last c.args.attempts.now c.in-Some.last.now (sym c.in-Some.ensures.value))
