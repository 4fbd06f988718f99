use Rattle.sms_journal.specs.Recovering.{IsFaultOfJournal}
use Rattle.sms_send.proofs.Runs.{of_files}
use Rattle.sms_send.proofs.jobs.recover_job.recovered.Goals as goal

pub returns-in-Err-clause-refused : goal.returns-in-Err-clause-refused
returns-in-Err-clause-refused g c = (
  c.in-Err.fault,
  of_files (λ x a m t w. IsFaultOfJournal x a m t w c.args.trial (g.W.Write.contents c.args.output.now) (g.W.Write.contents c.run_recover-recovered.new.output) c.in-Err.fault) _ _ _ _ _ _ _ _ _ _
      c.as_slice.ensures.value c.as_slice-2.ensures.value c.as_slice-3.ensures.value c.tariff.ensures c.as_slice-4.ensures.value c.in-Err.ensures.refused,
  c.fault_of_run.ensures,
)
