use Rattle.sms_devices.proofs.Words.{own_word}
use Rattle.sms_devices.proofs.waking.owners.a_word_speaks_of_its_number.Goals as goal

pub returns-clause-owner : goal.returns-clause-owner
returns-clause-owner c = own_word
