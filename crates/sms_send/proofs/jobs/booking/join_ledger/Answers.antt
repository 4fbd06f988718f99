use Rattle.sms_send.proofs.Posting.{lacks_named}
use Rattle.sms_send.proofs.jobs.booking.join_ledger.Goals as goal

pub returns-in-Err-clause-refused : goal.returns-in-Err-clause-refused
returns-in-Err-clause-refused g c = lacks_named (g.R.LedgerFiles.lacks_ledger c.args.rt.now) c.args.name.now c.in-Err.why c.lost.result c.in-Err.ensures.refused c.lost.ensures

pub returns-in-Err-open_ledger-clause-refused : goal.returns-in-Err-open_ledger-clause-refused
returns-in-Err-open_ledger-clause-refused g c =
    lacks_named (g.R.LedgerFiles.lacks_ledger c.args.rt.now) c.args.name.now c.in-Err-open_ledger.why c.lost-in-Err-open_ledger.result c.in-Err-open_ledger.ensures.refused c.lost-in-Err-open_ledger.ensures
