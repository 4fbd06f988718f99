use Rattle.sms_segment.proofs.JoinLemmas.{joins_back}
use Rattle.sms_segment.proofs.laws.joining_gives_the_text_back.Goals as goal

pub returns : goal.returns
returns c = joins_back
