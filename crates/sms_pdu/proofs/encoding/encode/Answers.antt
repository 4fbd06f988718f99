use Rattle.sms_pdu.specs.Borrowed.{owned_pdu}
use Rattle.sms_pdu.proofs.Writings.{sized_again, same_text, added_to_none}
use Rattle.sms_pdu.proofs.encoding.encode.Goals as goal

pub returns-clause-spelled : goal.returns-clause-spelled
returns-clause-spelled c =
    added_to_none (owned_pdu c.as_ref-pdu.result) c.args.pdu.now c.in_ok-out.out.items c.put_pdu.new.out.items c.as_ref-pdu.ensures c.in_ok-out.ensures.items c.put_pdu.ensures

pub returns-clause-only : goal.returns-clause-only
returns-clause-only c =
    let spelled = added_to_none (owned_pdu c.as_ref-pdu.result) c.args.pdu.now c.in_ok-out.out.items c.put_pdu.new.out.items c.as_ref-pdu.ensures c.in_ok-out.ensures.items c.put_pdu.ensures in
    λ octets s. same_text c.args.pdu.now octets c.put_pdu.new.out.items s spelled

pub returns-clause-exact : goal.returns-clause-exact
returns-clause-exact c =
    let spelled = added_to_none (owned_pdu c.as_ref-pdu.result) c.args.pdu.now c.in_ok-out.out.items c.put_pdu.new.out.items c.as_ref-pdu.ensures c.in_ok-out.ensures.items c.put_pdu.ensures in
    sized_again c.args.pdu.now c.put_pdu.new.out.items spelled
