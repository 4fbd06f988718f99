use Rattle.std.proofs.Common.{◌≡◌}
use Rattle.sms_pdu.proofs.Copying.{copied}
use Rattle.sms_pdu.proofs.message_id.MessageId.of.Given as goal

abbrev pub invariant-loop-i : goal.invariant-loop-i
invariant-loop-i l = l.octets ≡ copied 64 l.i l.text
