use Rattle.std.proofs.Common.{◌∙◌, sym}
use Rattle.sms_journal.proofs.LastAnswers.{again_by_last}
use Rattle.sms_journal.proofs.audit.schedule.lets_again_at_last.Goals as goal

pub returns-in-Some : goal.returns-in-Some
returns-in-Some c = c.is_again.ensures ∙ sym (again_by_last c.args.attempts.now c.in-Some.last.now (sym c.in-Some.ensures.value))
