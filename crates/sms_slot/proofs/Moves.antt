-- How a slot's mark moves with it.
use Rattle.std.proofs.Common.{◌≡◌, ℕ, ◌==◌, if◌then◌else◌, refl, ap, ◌∙◌, eq-eqb}
use Rattle.std.specs.Prelude.{Some, None}
use Rattle.sms_core.specs.declared.mark.Mark.TheVariants.{Open, Replied}
use Rattle.sms_core.specs.Marks.{opened}
use Rattle.sms_pdu.specs.declared.reply.Reply.{Reply}
use Rattle.sms_slot.specs.declared.slot.Slot.TheVariants.{Empty, Waiting, Answered}
use Rattle.sms_slot.specs.Slot.{MarkChanges, answered_with}

-- a request with a number opens an empty slot
pub opens : (request worker number : ℕ) → MarkChanges (opened request number) Empty (Waiting worker number)
opens request worker number mark is = (Open request number, ap (opened request number) is, (request, refl))

-- the answer with its number is the reply to a waiting request
pub replies : (reply : Reply) (worker number : ℕ) → number ≡ reply.number → MarkChanges (answered_with reply) (Waiting worker number) (Answered worker number)
replies reply worker number same mark is =
    let after = Replied is.0 number reply.status reply.nack in
    let there : (if number == reply.number then Some after else None) ≡ Some after = ap (λ b. if b then Some after else None) (eq-eqb number reply.number same) in
    (after, ap (answered_with reply) is.1 ∙ there, (is.0, reply.status, reply.nack, refl))
