use Rattle.sms_devices.proofs.Grown.{made_written}
use Rattle.sms_devices.proofs.journal.made_file.MadeFileWrite.write.Goals as goal

pub invariant_of-self : goal.invariant_of-self
invariant_of-self g c = made_written g.F.Write.contents g.O.Origin.made c.self.inside.file c.write.new.self c.write.result c.args.buf.now c.self.invariant c.write.ensures.bytes
