use Rattle.std.proofs.Common.{◌∙◌, rules}
use Rattle.sms_pdu.specs.Grammar.{Spells}
use Rattle.sms_bind.specs.Deeds.{pdu_for}
use Rattle.sms_bind.proofs.Responses.{spelled_number, spelled_response}
use Rattle.sms_bind.proofs.replying.acknowledge.Goals as goal

pub write_acknowledgement-requires-clause-response : goal.write_acknowledgement-requires-clause-response
write_acknowledgement-requires-clause-response g c = let spelled : Spells (pdu_for c.args.response.now) c.in-Ok.frame = search rules in spelled_response c.args.response.now c.in-Ok.frame spelled

pub write_acknowledgement-requires-clause-permitted : goal.write_acknowledgement-requires-clause-permitted
write_acknowledgement-requires-clause-permitted g c =
    let spelled : Spells (pdu_for c.args.response.now) c.in-Ok.frame = search rules in
    record { allowed = c.requires.allowed.0; covers = c.requires.allowed.1; number = spelled_number c.args.response.now c.in-Ok.frame spelled ∙ c.requires.number }
