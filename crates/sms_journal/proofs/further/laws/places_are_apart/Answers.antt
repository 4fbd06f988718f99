use Rattle.sms_journal.proofs.Over.{places_apart}
use Rattle.sms_journal.proofs.further.laws.places_are_apart.Goals as goal

pub returns : goal.returns
returns g c = λ es message other e o at there left also same. places_apart es message other e o at there left also same
