use Rattle.sms_journal.specs.Listings.{IsFaultOfRunListing}
use Rattle.sms_send.proofs.Runs.{of_files}
use Rattle.sms_send.proofs.jobs.list_job.listed.Goals as goal

pub returns-in-Err-clause-refused : goal.returns-in-Err-clause-refused
returns-in-Err-clause-refused g c = (
  c.in-Err.fault,
  of_files (λ x a m t w. IsFaultOfRunListing x a m t w c.args.columns (g.W.Write.contents c.args.output.now) (g.W.Write.contents c.run_listing-printed.new.output) c.in-Err.fault) _ _ _ _ _ _ _ _ _ _
      c.as_slice.ensures.value c.as_slice-2.ensures.value c.as_slice-3.ensures.value c.tariff.ensures c.as_slice-4.ensures.value c.in-Err.ensures.refused,
  c.fault_of_run.ensures,
)
