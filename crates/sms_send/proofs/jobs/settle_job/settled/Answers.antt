use Rattle.sms_send.proofs.Returned.{fails_back}
use Rattle.sms_send.proofs.jobs.settle_job.settled.Goals as goal

pub returns-clause-refused : goal.returns-clause-refused
returns-clause-refused g c =
    fails_back (g.R.LedgerFiles.holds_ledger c.args.rt.now) (g.R.LedgerFiles.lacks_ledger c.args.rt.now) g.R.LedgerFile.HeldFile.errs g.R.LedgerFile.HeldFile.octets g.R.LedgerFile.HeldFile.opening g.R.LedgerFile.HeldFile.is_closed c.args.ledger.now c.in-Ok.file c.give_back-booked.new.file
    (record { held = c.in-Ok.ensures.held; same = c.give_back-booked.ensures.same; closed = c.close.ensures }) c.give_back-booked.result
    c.args.read.now.name _ _ _ _ c.as_slice.ensures.value c.as_slice-2.ensures.value c.give_back-booked.ensures.failed
