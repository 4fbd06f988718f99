use Rattle.std.proofs.Common.{List, inr, subst}
use Rattle.sms_book.specs.declared.opening.Opening.{Opening}
use Rattle.sms_send.specs.LedgerJobs.{LacksNames}
use Rattle.sms_send.proofs.jobs.ledger_run.ledger_run_of.Goals as goal

pub returns-in-Err-names_of-clause-refused : goal.returns-in-Err-names_of-clause-refused
returns-in-Err-names_of-clause-refused g c =
    inr (inr (inr (c.in-Ok-noted_run.run', c.in-Ok-noted_run.ensures.run, subst (λ (o : List Opening). LacksNames o c.in-Err-names_of.fault) c.as_slice.ensures.value c.in-Err-names_of.ensures.refused)))
