use Rattle.std.proofs.Common.{◌≡◌, ℕ, take}
use Rattle.sms_journal.specs.DenseMap.{value_in}
use Rattle.sms_journal.specs.Recovered.{first_in, fate_in}
use Rattle.sms_journal.proofs.notes.fates.fates.Given as goal

abbrev pub invariant-loop-note : goal.invariant-loop-note
invariant-loop-note l = (worker number : ℕ) → value_in l.fates worker number ≡ first_in (fate_in worker number) (take l.note-index l.notes)
