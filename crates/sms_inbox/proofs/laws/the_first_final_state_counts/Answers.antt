use Rattle.sms_inbox.proofs.Hearing as hearing
use Rattle.sms_inbox.proofs.laws.the_first_final_state_counts.Goals as goal

pub returns-clause-stays : goal.returns-clause-stays
returns-clause-stays c = hearing.finals_stay

pub returns-clause-own : goal.returns-clause-own
returns-clause-own c = hearing.heard_own

pub returns-clause-none : goal.returns-clause-none
returns-clause-none c = hearing.none_of_none
