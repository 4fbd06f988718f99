use Rattle.std.proofs.Common.{◌∙◌}
use Rattle.sms_pdu.specs.Borrowed.{owned_pdu}
use Rattle.sms_pdu.proofs.Writings.{sized_again}
use Rattle.sms_pdu.proofs.sizes.encoded_length.Goals as goal

pub returns-clause-only : goal.returns-clause-only
returns-clause-only c = λ octets s. c.body_length.ensures ∙ sized_again (owned_pdu c.args.pdu.now) octets s
