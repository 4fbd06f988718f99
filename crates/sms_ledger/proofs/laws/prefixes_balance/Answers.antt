use Rattle.sms_ledger.proofs.Balancing as balancing
use Rattle.sms_ledger.proofs.laws.prefixes_balance.Goals as goal

pub returns-clause-prefixes : goal.returns-clause-prefixes
returns-clause-prefixes c = balancing.prefixes_are_ledgers

pub returns-clause-balance : goal.returns-clause-balance
returns-clause-balance c = balancing.prefixes_balance
