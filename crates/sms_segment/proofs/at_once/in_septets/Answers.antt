use Rattle.std.proofs.Common.{arith, sym, ◌∙◌}
use Rattle.sms_segment.proofs.PartLemmas.{septets_are_octets}
use Rattle.sms_segment.proofs.at_once.in_septets.Goals as goal

pub returns : goal.returns
returns c = record { short = omega (arith, c.len.ensures, c.single_limit.ensures); octets = c.shrink_to_fit.ensures.items ∙ sym (septets_are_octets c.args.codes.items); coding = c.data_coding.ensures }
