use Rattle.std.proofs.Common.{ap}
use Rattle.std.specs.Option.{is_some}
use Rattle.sms_bind.proofs.ReadBinds.{read_by}
use Rattle.sms_devices.proofs.waking.waking_reader.WakingReaderReadsBind.read_bind.Goals as goal

pub returns : goal.returns
returns g c =
    let end = c.read_loop_with-end.ensures in
    read_by (λ r. g.S.Read.remaining r.inner) (is_some c.device-device.result.inbox) (is_some c.args.self.lines.inbox) c.args.turns c.args.self c.args.begin c.read_loop_with-end.result.0 c.new-reader.result c.read_loop_with-end.new.reader
    c.new-reader.ensures.inner c.new-reader.ensures.faults (ap is_some c.device-device.ensures.inbox) end.rings end.answers end.window end.read
