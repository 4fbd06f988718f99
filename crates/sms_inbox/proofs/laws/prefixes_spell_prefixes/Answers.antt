use Rattle.sms_inbox.proofs.Spelling as spelling
use Rattle.sms_inbox.proofs.laws.prefixes_spell_prefixes.Goals as goal

pub returns-clause-prefixes : goal.returns-clause-prefixes
returns-clause-prefixes c = spelling.prefixes_spell_prefixes

pub returns-clause-cuts : goal.returns-clause-cuts
returns-clause-cuts c = spelling.cuts_lose_one
