use Rattle.std.proofs.Common.{◌≡◌, ℕ, ◌<◌, false, get_or}
use Rattle.sms_core.specs.declared.slots.Slot.TheVariants.{Free}
use Rattle.sms_core.specs.Marks.{waits_for}
use Rattle.sms_core.specs.Slots.{mark_in}
use Rattle.sms_core.proofs.slots.Slots.waiting.Given as goal

abbrev pub invariant-loop-slot : goal.invariant-loop-slot
invariant-loop-slot l = (k : ℕ) → k < l.slot → waits_for l.number (mark_in (get_or l.self-inside.slots k Free)) ≡ false
