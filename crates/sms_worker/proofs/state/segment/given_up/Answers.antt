use Rattle.std.proofs.Common.{rules}
use Rattle.sms_worker.proofs.Tries.{given_state}
use Rattle.sms_worker.proofs.state.segment.given_up.Goals as goal

pub returns : goal.returns
returns c = record {
  cost = search rules;
  attempts = search rules;
  outcome = search rules;
  state = given_state c.args.segment (record { cost = c.args.segment.cost; attempts = c.args.segment.attempts; outcome = c.outcome_given_up-outcome.result }) (search rules) (search rules);
}
