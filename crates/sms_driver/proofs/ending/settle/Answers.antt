use Rattle.std.proofs.Common.{refl}
use Rattle.sms_driver.proofs.ending.settle.Goals as goal

pub unreachable-requires : goal.unreachable-requires
unreachable-requires g c = c.in-Err.ensures.missing.0 refl c.requires.all
