use Rattle.sms_core.proofs.Funds.{rows_balance, topped_is_sum}
use Rattle.sms_core.proofs.laws.rows_balance.Goals as goal

pub returns-clause-balance : goal.returns-clause-balance
returns-clause-balance c = rows_balance

pub returns-clause-topped : goal.returns-clause-topped
returns-clause-topped c = topped_is_sum
