use Rattle.sms_worker.proofs.Events.{claim_is_event, sending_is_event, answer_is_event, decision_is_event, expiry_is_event, giving_up_is_event, release_is_event}
use Rattle.sms_worker.proofs.Leaving.{leaving_is_no_event}
use Rattle.sms_worker.proofs.laws.an_attempt_is_events.Goals as goal

pub returns-clause-claims : goal.returns-clause-claims
returns-clause-claims c = claim_is_event

pub returns-clause-sends : goal.returns-clause-sends
returns-clause-sends c = sending_is_event

pub returns-clause-answers : goal.returns-clause-answers
returns-clause-answers c = answer_is_event

pub returns-clause-decides : goal.returns-clause-decides
returns-clause-decides c = decision_is_event

pub returns-clause-expires : goal.returns-clause-expires
returns-clause-expires c = expiry_is_event

pub returns-clause-gives_up : goal.returns-clause-gives_up
returns-clause-gives_up c = giving_up_is_event

pub returns-clause-releases : goal.returns-clause-releases
returns-clause-releases c = release_is_event

pub returns-clause-leaves : goal.returns-clause-leaves
returns-clause-leaves c = leaving_is_no_event
