use Rattle.sms_segment.proofs.TextLemmas.{fully_cut, parts_of-fully_cut}
use Rattle.sms_segment.proofs.laws.a_text_is_fully_cut_into_its_parts.Goals as goal

pub returns : goal.returns
returns c = λ text reference sent. (parts_of-fully_cut text reference sent, λ is. rw is (fully_cut text reference))
