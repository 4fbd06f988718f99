use Rattle.sms_devices.proofs.Grown.{made_kept}
use Rattle.sms_devices.proofs.journal.made_file.MadeFileWrite.flush.Goals as goal

pub invariant_of-self : goal.invariant_of-self
invariant_of-self g c = made_kept g.F.Write.contents g.O.Origin.made c.self.inside.file c.flush.new.self c.self.invariant c.flush.ensures.bytes
