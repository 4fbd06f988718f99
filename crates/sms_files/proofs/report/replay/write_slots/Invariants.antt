use Rattle.std.proofs.Common.{◌≡◌, ◌++◌}
use Rattle.std.specs.Prelude.{string_bytes}
use Rattle.sms_core.specs.State.{holder_of}
use Rattle.sms_files.specs.ReplayText.{each_below, slot_line}
use Rattle.sms_files.proofs.report.replay.write_slots.Given as goal

abbrev pub invariant-loop-slot : goal.invariant-loop-slot
invariant-loop-slot l =
    string_bytes l.text ≡ string_bytes l.initial.text ++ each_below l.slot (λ slot. slot_line slot (holder_of l.world slot))
