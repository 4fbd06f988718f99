use Rattle.std.proofs.Common.{length, ap, arith}
use Rattle.sms_segment.proofs.Least.{least, only}
use Rattle.sms_segment.proofs.laws.a_full_cutting_is_least.Goals as goal

pub returns : goal.returns
returns c = λ limit groups full other is_full_cutting is_full is_other.
    omega (arith, ap length (only limit groups full is_full_cutting is_full), least limit groups other is_other)
