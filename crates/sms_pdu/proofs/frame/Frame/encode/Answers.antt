use Rattle.std.proofs.Common.{refl, subst, sym}
use Rattle.std.specs.Prelude.{List, ℕ}
use Rattle.sms_pdu.specs.Borrowed.{owned_pdu}
use Rattle.sms_pdu.specs.Grammar.{Spells}
use Rattle.sms_pdu.proofs.Writings.{sized_again, added_to_none}
use Rattle.sms_pdu.proofs.frame.Frame.encode.Goals as goal

pub returns-in-Ok-clause-spelled : goal.returns-in-Ok-clause-spelled
returns-in-Ok-clause-spelled c =
    let pdu = owned_pdu c.args.pdu.now in
    let spelled = added_to_none pdu pdu c.new-octets.result.items c.encode_into.new.out.items refl c.new-octets.ensures.items c.in-Ok.ensures.spelled in
    subst (λ (octets : List ℕ). Spells pdu octets) (sym c.new.ensures) spelled

pub returns-in-Ok-clause-exact : goal.returns-in-Ok-clause-exact
returns-in-Ok-clause-exact c = sized_again (owned_pdu c.args.pdu.now) c.new.result (returns-in-Ok-clause-spelled c)
