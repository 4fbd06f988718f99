use Rattle.std.proofs.Common.{◌∙◌, ap}
use Rattle.std.proofs.lemmas.List.{take_rest}
use Rattle.sms_devices.specs.Wakes.{and_this}
use Rattle.sms_devices.proofs.Scanning.{scanned_frame, scanned_octet}
use Rattle.sms_devices.proofs.waking.wakes.Wakes.see_some.Goals as goal

pub returns-in-Some-clause-scanned : goal.returns-in-Some-clause-scanned
returns-in-Some-clause-scanned c =
    scanned_frame c.args.octets.now _ c.in-Some.length c.args.headers.now c.args.self.now c.add.new.self c.in-Some.header c.wake_of.ensures.0 (c.is_between.ensures.0 c.if-is_between.true) c.in-Some.ensures.frame.1 (take_rest c.args.octets.now c.in-Some.length) c.in-Some.ensures.frame.2 (c.add.ensures ∙ ap (and_this c.args.self.now) c.wake_of.ensures.1)

pub returns-clause-scanned : goal.returns-clause-scanned
returns-clause-scanned c =
    scanned_octet c.args.octets.now c.in-Some-split_first.after.now c.in-Some-split_first.octet.now c.args.headers.now c.see_one.new.headers c.args.self.now c.see_one.new.self c.in-Some-split_first.ensures.cases.0 c.see_one.ensures.headers c.see_one.ensures.woken
