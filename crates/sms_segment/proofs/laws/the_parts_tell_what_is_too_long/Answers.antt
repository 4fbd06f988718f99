use Rattle.std.proofs.Common.{arith}
use Rattle.sms_segment.proofs.TextLemmas.{length-parts_of, too_long, too_long-parts}
use Rattle.sms_segment.proofs.laws.the_parts_tell_what_is_too_long.Goals as goal

pub returns : goal.returns
returns c = λ text reference. (too_long-parts text reference, λ many. too_long text reference (omega (arith, length-parts_of text reference)))
