use Rattle.sms_segment.proofs.SizeLemmas.{parts_have_septets}
use Rattle.sms_segment.proofs.laws.the_parts_have_septets.Goals as goal

pub returns : goal.returns
returns c = parts_have_septets
