use Rattle.std.proofs.Common.{sym, subst}
use Rattle.sms_slot.specs.declared.slot.Slot.{Slot}
use Rattle.sms_slot.specs.declared.slot.Slot.TheVariants.{Answered}
use Rattle.sms_slot.specs.Slot.{MarkChanges, answered_with}
use Rattle.sms_slot.proofs.Moves.{replies}
use Rattle.sms_slot.proofs.slot.Slot.answer.Goals as goal

pub returns-else-not-push_reply-clause-mark : goal.returns-else-not-push_reply-clause-mark
returns-else-not-push_reply-clause-mark c = subst (λ (s : Slot). MarkChanges (answered_with c.args.reply) s (Answered c.in-Waiting.worker c.in-Waiting.number)) (sym c.in-Waiting.is) (replies c.args.reply c.in-Waiting.worker c.in-Waiting.number c.if-number-reply.true)
