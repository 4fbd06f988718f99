use Rattle.std.proofs.Common.{[], None, rules}
use Rattle.sms_ledger.proofs.Causes.{same_state}
use Rattle.sms_ledger.proofs.ledger.Ledger.new.Goals as goal

pub returns : goal.returns
returns c = same_state _ (λ _. None) _ [] _ [] _ (λ _. None) _ (λ _. None) (λ q. search rules) (search rules) (search rules) (λ q. search rules) (λ q. search rules)
