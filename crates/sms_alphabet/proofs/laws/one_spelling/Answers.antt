use Rattle.sms_alphabet.proofs.Membership.{standing_is_found}
use Rattle.sms_alphabet.proofs.laws.one_spelling.Goals as goal

pub returns : goal.returns
returns c = λ character codes others stands stands_too.
    let found = standing_is_found character codes stands in
    let found_too = standing_is_found character others stands_too in
    cc
