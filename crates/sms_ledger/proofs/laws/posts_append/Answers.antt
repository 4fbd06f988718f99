use Rattle.sms_ledger.proofs.Postings as postings
use Rattle.sms_ledger.proofs.laws.posts_append.Goals as goal

pub returns-clause-lines : goal.returns-clause-lines
returns-clause-lines c = postings.posts_append

pub returns-clause-entries : goal.returns-clause-entries
returns-clause-entries c = postings.booked_append
