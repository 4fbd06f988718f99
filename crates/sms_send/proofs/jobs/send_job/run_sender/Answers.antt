use Rattle.std.proofs.Common.{inl, inr, refl, ap}
use Rattle.sms_send.proofs.Telling.{told_so}
use Rattle.sms_send.proofs.Sendings.{unsent_once, unwritten_told}
use Rattle.sms_send.proofs.Starts.{read_at, unwritten_at}
use Rattle.sms_send.proofs.jobs.send_job.run_sender.Goals as goal

pub returns-clause-sent : goal.returns-clause-sent
returns-clause-sent g c = (
  c.in_ok-input.input,
  c.in_ok-input.ensures.read,
  c.in_ok-input.ensures.no_fields,
  record { ended = c.in_ok-ended.ended; sent = c.in_ok-ended.ensures.sent; written = c.in_ok-write_report.ensures.written; status_is = c.exit_status.ensures },
)

pub returns-in_err-input-clause-refused : goal.returns-in_err-input-clause-refused
returns-in_err-input-clause-refused g c = told_so c.from_residual.result _ _ c.from_residual.ensures.1 (inl c.in_err-input.ensures.refused)

pub returns-in_err-ended-clause-refused : goal.returns-in_err-ended-clause-refused
returns-in_err-ended-clause-refused g c =
    told_so c.from_residual-in_err-ended.result _ _ c.from_residual-in_err-ended.ensures.1
    (inr (c.in_ok-input.input, c.in_ok-input.ensures.read, c.in_ok-input.ensures.no_fields, inl (unsent_once (g.D.Dial.refuses c.args.dial.now) (g.D.Dial.told c.args.dial.now) c.in_ok-input.input.config _ _ c.in_err-ended.ensures.refused)))

pub returns-in_err-write_report-clause-refused : goal.returns-in_err-write_report-clause-refused
returns-in_err-write_report-clause-refused g c =
    told_so c.from_residual-in_err-write_report.result _ _ c.from_residual-in_err-write_report.ensures.1
    (inr (
      c.in_ok-input.input,
      c.in_ok-input.ensures.read,
      c.in_ok-input.ensures.no_fields,
      unwritten_told (λ round. g.D.Dial.refuses c.args.dial.now) (λ round. g.D.Dial.told c.args.dial.now) _ c.in_ok-ended.ended _ _ _ c.in_ok-ended.ensures.sent c.in_err-write_report.ensures.failed c.in_err-write_report.ensures.front (λ memory. ap g.W.Write.contents (c.in_err-write_report.ensures.quiet memory)),
    ))

pub returns-in_err-input-clause-unwritten : goal.returns-in_err-input-clause-unwritten
returns-in_err-input-clause-unwritten g c = told_so c.from_residual.result _ _ c.from_residual.ensures.1 (λ other. refl)

pub returns-in_err-ended-clause-unwritten : goal.returns-in_err-ended-clause-unwritten
returns-in_err-ended-clause-unwritten g c = told_so c.from_residual-in_err-ended.result _ _ c.from_residual-in_err-ended.ensures.1 (λ other. refl)

pub returns-clause-started : goal.returns-clause-started
returns-clause-started g c = c.in_ok-ended.ensures.started

pub returns-in_err-input-clause-phase : goal.returns-in_err-input-clause-phase
returns-in_err-input-clause-phase g c = told_so c.from_residual.result _ _ c.from_residual.ensures.1 (read_at _ _ _ c.requires.not_started c.in_err-input.ensures.refused)

pub returns-in_err-ended-clause-phase : goal.returns-in_err-ended-clause-phase
returns-in_err-ended-clause-phase g c = told_so c.from_residual-in_err-ended.result _ _ c.from_residual-in_err-ended.ensures.1 c.in_err-ended.ensures.phase

pub returns-in_err-write_report-clause-phase : goal.returns-in_err-write_report-clause-phase
returns-in_err-write_report-clause-phase g c = told_so c.from_residual-in_err-write_report.result _ _ c.from_residual-in_err-write_report.ensures.1 (unwritten_at _ _ c.in_ok-ended.ensures.started c.in_err-write_report.ensures.failed)
