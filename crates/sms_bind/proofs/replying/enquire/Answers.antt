use Rattle.std.proofs.Common.{◌∙◌, rules}
use Rattle.sms_pdu.specs.Grammar.{Spells}
use Rattle.sms_pdu.proofs.Wholes.{spelled_heads}
use Rattle.sms_bind.specs.Deeds.{enquiry_of}
use Rattle.sms_bind.specs.Devices.{number_of}
use Rattle.sms_bind.proofs.Responses.{sent_spells, spelled_enquiry}
use Rattle.sms_bind.proofs.replying.enquire.Goals as goal

pub write_enquiry-requires-clause-enquiry : goal.write_enquiry-requires-clause-enquiry
write_enquiry-requires-clause-enquiry g c =
    let spelled : Spells (enquiry_of c.get.result) c.in-Ok.frame = search rules in
    spelled_enquiry c.get.result c.in-Ok.frame spelled

pub write_enquiry-requires-clause-own : goal.write_enquiry-requires-clause-own
write_enquiry-requires-clause-own g c =
    let spelled : Spells (enquiry_of c.get.result) c.in-Ok.frame = search rules in
    (spelled_heads (enquiry_of c.get.result) c.in-Ok.frame spelled).number ∙ c.get.ensures

pub returns : goal.returns
returns g c =
    let spelled : Spells (enquiry_of c.get.result) c.in-Ok.frame = search rules in
    sent_spells c.write_enquiry.result c.get.result (number_of c.args.number) c.in-Ok.frame c.get.ensures spelled c.write_enquiry.ensures
