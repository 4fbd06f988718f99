use Rattle.std.proofs.Common.{sym, ◌∙◌}
use Rattle.sms_segment.proofs.Least.{only}
use Rattle.sms_segment.proofs.laws.a_full_cutting_is_the_only_one.Goals as goal

pub returns : goal.returns
returns c = λ limit groups full other is_full_cutting is_full is_other other_is_full.
    sym (only limit groups full is_full_cutting is_full) ∙ only limit groups other is_other other_is_full
