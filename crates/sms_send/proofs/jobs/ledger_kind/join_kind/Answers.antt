use Rattle.sms_send.proofs.Posting.{lacks_named}
use Rattle.sms_send.proofs.jobs.ledger_kind.join_kind.Goals as goal

pub returns-in-Err-clause-refused : goal.returns-in-Err-clause-refused
returns-in-Err-clause-refused g c = lacks_named (g.R.LedgerFiles.lacks_ledger c.args.rt.now) c.args.name.now c.in-Err.why c.lost.result c.in-Err.ensures.refused c.lost.ensures
