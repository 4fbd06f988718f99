use Rattle.std.specs.Prelude.{length}
use Rattle.sms_send.proofs.Charging.{were_read}
use Rattle.sms_send.proofs.laws.each_charge_was_read.Goals as goal

pub returns : goal.returns
returns c told input ended sent binds workers =
    let limits = input.config.limits in
    (were_read told sent.rules (length input.openings.items) limits.binds limits.workers input.messages.items ended.ends.items sent.ends sent.heard binds workers).0
