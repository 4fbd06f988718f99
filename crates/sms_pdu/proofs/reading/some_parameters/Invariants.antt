use Rattle.std.proofs.Common.{◌≡◌, ◌≤◌, ◌+◌, ◌-◌, length}
use Rattle.sms_pdu.specs.Reading.{parameters_within, parameters_at}
use Rattle.sms_pdu.proofs.Parameters.{with_front}
use Rattle.sms_pdu.proofs.reading.some_parameters.Given as goal

abbrev pub invariant-loop-rest : goal.invariant-loop-rest
invariant-loop-rest l = record {
  room : length l.list.items + length l.rest ≤ length l.octets;
  so_far : with_front l.list.items (parameters_within (length l.octets - length l.list.items) l.rest) ≡ parameters_at l.octets;
}

abbrev pub decreases-loop-rest : goal.decreases-loop-rest
decreases-loop-rest l = length l.rest
