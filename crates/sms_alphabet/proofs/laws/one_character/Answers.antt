use Rattle.sms_alphabet.proofs.Membership.{standing_is_found}
use Rattle.sms_alphabet.proofs.Table.{one_character}
use Rattle.sms_alphabet.proofs.laws.one_character.Goals as goal

pub returns : goal.returns
returns c = λ character other codes stands stands_too.
    one_character character other codes (standing_is_found character codes stands) (standing_is_found other codes stands_too)
