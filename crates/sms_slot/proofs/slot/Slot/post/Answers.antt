use Rattle.std.proofs.Common.{sym, subst}
use Rattle.sms_core.specs.Marks.{opened}
use Rattle.sms_slot.specs.declared.slot.Slot.{Slot}
use Rattle.sms_slot.specs.declared.slot.Slot.TheVariants.{Waiting}
use Rattle.sms_slot.specs.Slot.{MarkChanges}
use Rattle.sms_slot.proofs.Moves.{opens}
use Rattle.sms_slot.proofs.slot.Slot.post.Goals as goal

pub returns-in-Empty-clause-mark : goal.returns-in-Empty-clause-mark
returns-in-Empty-clause-mark c = λ request. subst (λ (s : Slot). MarkChanges (opened request c.args.number) s (Waiting c.args.worker c.args.number)) (sym c.in-Empty.is) (opens request c.args.worker c.args.number)
