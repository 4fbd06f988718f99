use Rattle.sms_devices.proofs.Scanning.{scanned_more}
use Rattle.sms_devices.proofs.waking.wakes.Wakes.see.Goals as goal

pub loop-rest-preserved : goal.loop-rest-preserved
loop-rest-preserved c =
    scanned_more c.args.octets.now c.loop-rest.rest.now c.see_some-rest.result.now c.args.headers.now c.loop-rest.headers c.see_some-rest.new.headers c.args.self.now c.loop-rest.self c.see_some-rest.new.self c.loop-rest.invariant c.see_some-rest.ensures.scanned
