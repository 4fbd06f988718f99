use Rattle.std.proofs.Common.{inl}
use Rattle.std.specs.Prelude.{option_copied}
use Rattle.sms_journal.specs.Resting.{IsFaultOfPrinting, rest_by}
use Rattle.sms_send.proofs.Runs.{of_files}
use Rattle.sms_send.proofs.jobs.recover_job.messages_left.Goals as goal

pub returns-in-Err-clause-refused : goal.returns-in-Err-clause-refused
returns-in-Err-clause-refused g c = (
  c.in-Err.fault,
  of_files (λ x a m t w. IsFaultOfPrinting x a m t w (rest_by (option_copied c.args.refs) w m) (g.W.Write.contents c.args.output.now) (g.W.Write.contents c.run_rest-printed.new.output) c.in-Err.fault) _ _ _ _ _ _ _ _ _ _
      c.as_slice.ensures.value c.as_slice-2.ensures.value c.as_slice-3.ensures.value c.tariff.ensures c.as_slice-4.ensures.value c.in-Err.ensures.refused,
  inl c.from.ensures,
)
