use Rattle.std.proofs.Common.{◌≡◌, ◌≤◌, take}
use Rattle.sms_pdu.proofs.Lengths.{sized}
use Rattle.sms_files.proofs.fields.parameters.take_few_octets.Given as goal

abbrev pub invariant-loop-p : goal.invariant-loop-p
invariant-loop-p l = record { so_far : l.size ≡ sized (take l.p-index l.params); small : l.size ≤ 1024 }
