use Rattle.sms_ledger.proofs.Spelling as spelling
use Rattle.sms_ledger.proofs.laws.prefixes_spell_prefixes.Goals as goal

pub returns-clause-prefixes : goal.returns-clause-prefixes
returns-clause-prefixes c = spelling.prefixes_spell_prefixes

pub returns-clause-cuts : goal.returns-clause-cuts
returns-clause-cuts c = spelling.cuts_lose_one

pub returns-clause-once : goal.returns-clause-once
returns-clause-once c = spelling.texts_spell_once
