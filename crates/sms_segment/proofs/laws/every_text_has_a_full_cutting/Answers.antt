use Rattle.sms_segment.specs.Message.{text_parts}
use Rattle.sms_segment.proofs.TextLemmas.{text_cutting, text_full}
use Rattle.sms_segment.proofs.laws.every_text_has_a_full_cutting.Goals as goal

pub returns : goal.returns
returns c = λ text reference. (text_parts text reference, text_cutting text reference, text_full text reference)
