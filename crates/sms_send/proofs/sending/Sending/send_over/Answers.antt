use Rattle.std.proofs.Common.{refl}
use Rattle.sms_send.proofs.Sendings.{ended_printed, work_unsent}
use Rattle.sms_send.proofs.sending.Sending.send_over.Goals as goal

pub returns-in-Ok-clause-ended : goal.returns-in-Ok-clause-ended
returns-in-Ok-clause-ended g c =
    ended_printed c.print_sent.result _ (λ round. g.D.Dial.refuses (g.D.RoundDial.of_round c.args.dial.now round)) (λ round. g.D.Dial.told (g.D.RoundDial.of_round c.args.dial.now round)) _ c.args.work c.in-Ok.sent _ _ _ _ _ c.in-Ok.ensures.sent c.in-Ok.ensures.started c.print_sent.ensures.printed c.print_sent.ensures.failed c.print_sent.ensures.quiet

pub returns-clause-ended : goal.returns-clause-ended
returns-clause-ended g c = record {
  sent = tt;
  status = tt;
  started = tt;
  refused = work_unsent (λ round. g.D.Dial.refuses (g.D.RoundDial.of_round c.args.dial.now round)) _ c.args.self.now.again c.args.work _ _ _ c.in-Err.ensures.refused;
  phase = c.in-Err.ensures.phase;
  unwritten = λ other kept. refl;
}
