use Rattle.std.proofs.Common.{◌≡◌, Ok, refl, rules}
use Rattle.sms_pdu.specs.Size.{size_of}
use Rattle.sms_session.specs.Settings.{setting, bind_pdu}
use Rattle.sms_session.proofs.Encoding.{bind_lawful}
use Rattle.sms_session.proofs.settings.Settings.new.Goals as goal

pub returns-in-Ok-clause-ok : goal.returns-in-Ok-clause-ok
returns-in-Ok-clause-ok c =
    let s = setting c.args.mode c.args.system_id c.args.password c.args.system_type in
    let sized : size_of (bind_pdu s 0) ≡ Ok c.in-Ok._size = search rules in
    (refl, bind_lawful s c.in-Ok._size sized)
