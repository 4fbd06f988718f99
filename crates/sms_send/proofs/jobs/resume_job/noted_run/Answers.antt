use Rattle.sms_journal.specs.Resuming.{IsFaultOfRun, IsRunOfJournal}
use Rattle.sms_send.proofs.Runs.{of_files}
use Rattle.sms_send.proofs.jobs.resume_job.noted_run.Goals as goal

pub returns-in-Err-clause-refused : goal.returns-in-Err-clause-refused
returns-in-Err-clause-refused g c = (
  c.in-Err.fault,
  of_files (λ x a m t w. IsFaultOfRun x a m t w c.args.strict c.in-Err.fault) _ _ _ _ _ _ _ _ _ _
      c.as_slice.ensures.value c.as_slice-2.ensures.value c.as_slice-3.ensures.value c.tariff.ensures c.as_slice-4.ensures.value c.in-Err.ensures.refused,
  c.fault_of_run.ensures,
)

pub returns-in-Ok-clause-run : goal.returns-in-Ok-clause-run
returns-in-Ok-clause-run g c =
    of_files (λ x a m t w. IsRunOfJournal x a m t w c.in-Ok.run') _ _ _ _ _ _ _ _ _ _
    c.as_slice.ensures.value c.as_slice-2.ensures.value c.as_slice-3.ensures.value c.tariff.ensures c.as_slice-4.ensures.value c.in-Ok.ensures.run
