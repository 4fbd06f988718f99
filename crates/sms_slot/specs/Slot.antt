-- What a slot is in the world, and what each call does to it.
use Rattle.std.specs.Prelude.{◌≡◌, ℕ, Bool, Option, Some, None}
use Rattle.sms_core.specs.declared.mark.Mark.{Mark}
use Rattle.sms_core.specs.declared.mark.Mark.TheVariants.{Empty as MarkEmpty, Open, Replied}
use Rattle.sms_core.specs.Marks.{replied, settled, expired}
use Rattle.sms_pdu.specs.declared.reply.Reply.{Reply}
use Rattle.sms_slot.specs.declared.slot.Slot.{Slot}
use Rattle.sms_slot.specs.declared.slot.Slot.TheVariants.{Empty, Waiting, Answered}
use Rattle.sms_slot.specs.declared.slot.SlotDelivery.{SlotDelivery}
use Rattle.sms_slot.specs.declared.slot.SlotDelivery.TheVariants.{Matched, Overrun, Unknown}
use Rattle.sms_slot.specs.declared.row.NotAnswered.{NotAnswered}
use Rattle.sms_slot.specs.declared.slot.NoAnswer.{NoAnswer}
use Rattle.sms_slot.specs.declared.slot.Taken.{Taken}
use Rattle.sms_slot.specs.declared.slot.Taken.TheVariants.{Got, NotYet, Unknown as TakenUnknown}
use Rattle.sms_slot.specs.declared.slot.Expired.{Expired}
use Rattle.sms_slot.specs.declared.slot.Expired.TheVariants.{Done, Answered as ExpiredAnswered, Unknown as ExpiredUnknown}

-- the marks that the slot can have in the world: the slot keeps neither its request's id nor what the answer said
abbrev pub IsMark : Slot → Mark → Type 0
IsMark Empty mark = mark ≡ MarkEmpty
IsMark (Waiting worker number) mark = (request : ℕ) × (mark ≡ Open request number)
IsMark (Answered worker number) mark = (request : ℕ) × (status : ℕ) × (nack : Bool) × (mark ≡ Replied request number status nack)

-- whichever mark it has, the slot changes as its mark does
abbrev pub MarkChanges : (Mark → Option Mark) → Slot → Slot → Type 0
MarkChanges change old new = (mark : Mark) → IsMark old mark → (after : Mark) × (change mark ≡ Some after) × IsMark new after

-- its mark doesn't allow the change
abbrev pub MarkForbids : (Mark → Option Mark) → Slot → Type 0
MarkForbids change old = (mark : Mark) → IsMark old mark → change mark ≡ None

abbrev pub answered_with : Reply → Mark → Option Mark
answered_with reply mark = replied reply.number reply.status reply.nack mark

-- a request with this number waits
abbrev pub IsWaiting : ℕ → Slot → Type 0
IsWaiting number slot = (worker : ℕ) × (slot ≡ Waiting worker number)

-- or was answered
abbrev pub IsAnswered : ℕ → Slot → Type 0
IsAnswered number slot = (worker : ℕ) × (slot ≡ Answered worker number)

-- an answer is matched by its number; where the worker's ring has no room the request waits on
abbrev pub Answers : Reply → Slot → SlotDelivery → Slot → Type 0
Answers reply old (Matched worker) new = (old ≡ Waiting worker reply.number) × (new ≡ Answered worker reply.number)
Answers reply old (Overrun worker) new = (old ≡ Waiting worker reply.number) × (new ≡ old)
Answers reply old Unknown new = (¬ IsWaiting reply.number old) × (new ≡ old)

abbrev pub AnswersMark : Reply → Slot → SlotDelivery → Slot → Type 0
AnswersMark reply old (Matched worker) new = MarkChanges (answered_with reply) old new
AnswersMark reply old (Overrun worker) new = new ≡ old
AnswersMark reply old Unknown new = MarkForbids (answered_with reply) old

abbrev pub Takes : ℕ → Slot → Taken → Slot → Type 0
Takes number old Got new = IsAnswered number old × (new ≡ Empty)
Takes number old NotYet new = IsWaiting number old × (new ≡ old)
Takes number old TakenUnknown new = (¬ IsWaiting number old) × (¬ IsAnswered number old) × (new ≡ old)

-- the slot's state is the error's, and it has no answer to this number
abbrev pub LacksAnswer : ℕ → NoAnswer → Type 0
LacksAnswer number none = (none.number ≡ number) × ¬ IsAnswered number none.was

-- the same of this slot of a row
abbrev pub IsNotAnswered : ℕ → ℕ → NotAnswered → Type 0
IsNotAnswered slot number e = (e.slot ≡ slot) × LacksAnswer number e.none

abbrev pub TakesMark : Slot → Taken → Slot → Type 0
TakesMark old Got new = MarkChanges settled old new
TakesMark old NotYet new = MarkForbids settled old
TakesMark old TakenUnknown new = new ≡ old

abbrev pub Expires : ℕ → Slot → Expired → Slot → Type 0
Expires number old Done new = IsWaiting number old × (new ≡ Empty)
Expires number old ExpiredAnswered new = IsAnswered number old × (new ≡ old)
Expires number old ExpiredUnknown new = (¬ IsWaiting number old) × (¬ IsAnswered number old) × (new ≡ old)

abbrev pub ExpiresMark : Slot → Expired → Slot → Type 0
ExpiresMark old Done new = MarkChanges expired old new
ExpiresMark old ExpiredAnswered new = MarkForbids expired old
ExpiresMark old ExpiredUnknown new = new ≡ old
