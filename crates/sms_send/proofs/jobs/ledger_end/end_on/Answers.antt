use Rattle.sms_send.proofs.Settling.{unsent, unsettled}
use Rattle.sms_send.proofs.jobs.ledger_end.end_on.Goals as goal

pub returns-in-Err-back : goal.returns-in-Err-back
returns-in-Err-back g c = record {
  ended = unsettled (g.R.LedgerFiles.holds_ledger c.args.rt.now) (g.R.LedgerFiles.lacks_ledger c.args.rt.now) g.R.LedgerFile.HeldFile.errs g.R.LedgerFile.HeldFile.octets g.R.LedgerFile.HeldFile.stored g.R.LedgerFile.HeldFile.opening g.R.LedgerFile.HeldFile.is_closed c.args.ledger.now c.args.debtor.now c.args.begun c.args.kept c.args.sent c.in-Ok.status c.in-Err-back.fault _ _ c.in-Ok.is c.is_ok.ensures.value c.why_unsettled.ensures c.in-Err-back.ensures.refused;
}

pub returns-in-Err : goal.returns-in-Err
returns-in-Err g c = record {
  ended = unsent (g.R.LedgerFiles.holds_ledger c.args.rt.now) (g.R.LedgerFiles.lacks_ledger c.args.rt.now) g.R.LedgerFile.HeldFile.errs g.R.LedgerFile.HeldFile.octets g.R.LedgerFile.HeldFile.stored g.R.LedgerFile.HeldFile.opening g.R.LedgerFile.HeldFile.is_closed c.args.ledger.now c.args.debtor.now c.args.begun c.args.kept c.args.sent c.in-Err.fault c.settle_end-back.result _ c.in-Err.is c.is_ok.ensures.value c.settle_end-back.ensures.back c.settle_end-back.ensures.refused;
}
