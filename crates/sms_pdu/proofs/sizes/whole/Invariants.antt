use Rattle.std.proofs.Common.{◌≡◌, ◌≤◌, ◌+◌, take}
use Rattle.sms_pdu.proofs.Lengths.{sized}
use Rattle.sms_pdu.proofs.sizes.whole.Given as goal

abbrev pub invariant-loop-p : goal.invariant-loop-p
invariant-loop-p l = record { so_far : l.size ≡ l.before + sized (take l.p-index l.params); small : l.size ≤ 70000 }
