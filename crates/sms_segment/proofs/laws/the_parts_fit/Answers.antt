use Rattle.sms_segment.proofs.SizeLemmas.{parts_fit}
use Rattle.sms_segment.proofs.laws.the_parts_fit.Goals as goal

pub returns : goal.returns
returns c = parts_fit
