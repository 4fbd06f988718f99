use Rattle.sms_alphabet.proofs.Membership.{found_stands, standing_is_found}
use Rattle.sms_alphabet.proofs.laws.look_up.Goals as goal

pub returns : goal.returns
returns c = λ character codes. (found_stands character codes, standing_is_found character codes)
