use Rattle.std.proofs.Common.{refl, rules}
use Rattle.sms_pdu.specs.Grammar.{Spells}
use Rattle.sms_pdu.specs.declared.body.Body.TheVariants.{Unbind}
use Rattle.sms_bind.proofs.Responses.{spelled_request}
use Rattle.sms_driver.proofs.ending.skipped.unbind_frame.Goals as goal

pub returns-in-Ok-clause-request : goal.returns-in-Ok-clause-request
returns-in-Ok-clause-request c =
    let spelled : Spells (record { status = 0; number = c.args.number; body = Unbind }) c.in-Ok.frame = search rules in
    spelled_request _ c.in-Ok.frame spelled refl
