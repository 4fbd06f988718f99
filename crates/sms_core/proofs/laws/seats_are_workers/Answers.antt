use Rattle.sms_core.proofs.Renaming.{opens_as_workers, stays_as_workers, claim_is_workers, release_is_workers}
use Rattle.sms_core.proofs.laws.seats_are_workers.Goals as goal

pub returns-clause-opening : goal.returns-clause-opening
returns-clause-opening c = opens_as_workers

pub returns-clause-stays : goal.returns-clause-stays
returns-clause-stays c = stays_as_workers

pub returns-clause-claims : goal.returns-clause-claims
returns-clause-claims c = claim_is_workers

pub returns-clause-releases : goal.returns-clause-releases
returns-clause-releases c = release_is_workers
