use Rattle.sms_ledger.proofs.Counts as counts
use Rattle.sms_ledger.proofs.laws.parts_are_decided_once.Goals as goal

pub returns-clause-once : goal.returns-clause-once
returns-clause-once c = counts.parts_once

pub returns-clause-apart : goal.returns-clause-apart
returns-clause-apart c = counts.parts_apart
