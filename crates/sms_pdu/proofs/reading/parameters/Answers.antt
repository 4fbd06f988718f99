use Rattle.std.proofs.Common.{◌≤◌, length}
use Rattle.sms_pdu.proofs.Parameters.{none_left, is_no_length}
use Rattle.sms_pdu.proofs.reading.parameters.Goals as goal

pub returns-then-is_empty : goal.returns-then-is_empty
returns-then-is_empty c =
    let none : length c.args.octets.now ≤ 0 = is_no_length c.is_empty.result _ c.is_empty.ensures c.if-is_empty.true in
    rw c.none.ensures (none_left c.args.octets.now none)
