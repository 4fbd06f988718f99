use Rattle.std.proofs.Common.{ap}
use Rattle.std.specs.Prelude.{string_bytes}
use Rattle.sms_core.specs.State.{holder_of}
use Rattle.sms_files.specs.ReplayText.{slot_line}
use Rattle.sms_files.proofs.Below.{more-text, no-text}
use Rattle.sms_files.proofs.report.replay.write_slots.Goals as goal

pub loop-slot-init : goal.loop-slot-init
loop-slot-init c = no-text (string_bytes c.args.text.now) (λ slot. slot_line slot (holder_of c.args.world.now slot))

pub loop-slot-preserved : goal.loop-slot-preserved
loop-slot-preserved c =
    more-text (string_bytes c.loop-slot.text) (string_bytes c.args.text.now) (string_bytes c.write_slot.new.text) (slot_line c.loop-slot.slot c.holder.result) c.loop-slot.slot
    (λ slot. slot_line slot (holder_of c.args.world.now slot)) c.loop-slot.invariant (ap (slot_line c.loop-slot.slot) c.holder.ensures) c.in_ok-write_slot.ensures
