use Rattle.std.proofs.Common.{◌≡◌, ◌≤◌, ◌+◌, ◌++◌, take}
use Rattle.std.specs.Vec.{vec_len, vec_capacity}
use Rattle.sms_pdu.specs.Layout.{parameters_spelling, ParametersFit}
use Rattle.sms_pdu.proofs.Lengths.{sized}
use Rattle.sms_pdu.proofs.encoding.put_parameters.Given as goal

abbrev pub invariant-loop-p : goal.invariant-loop-p
invariant-loop-p l = record {
  put : l.out.items ≡ l.fn.out.items ++ parameters_spelling (take l.p-index l.params);
  fit : ParametersFit (take l.p-index l.params);
  len : vec_len l.out ≡ vec_len l.fn.out + sized (take l.p-index l.params);
  room : vec_capacity l.fn.out ≤ vec_capacity l.out;
}
