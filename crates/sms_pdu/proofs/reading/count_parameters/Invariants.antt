use Rattle.std.proofs.Common.{length}
use Rattle.sms_pdu.proofs.Parameters.{Counted}
use Rattle.sms_pdu.proofs.reading.count_parameters.Given as goal

abbrev pub invariant-loop-rest : goal.invariant-loop-rest
invariant-loop-rest l = Counted l.octets l.count l.rest

abbrev pub decreases-loop-rest : goal.decreases-loop-rest
decreases-loop-rest l = length l.rest
