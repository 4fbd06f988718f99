use Rattle.std.proofs.Common.{◌≡◌, ◌≤◌}
use Rattle.sms_send.specs.Rounds.{StandsAt}
use Rattle.sms_send.proofs.sending.rounds.send_rounds.Given as goal

abbrev pub invariant-loop-place : goal.invariant-loop-place
invariant-loop-place g l = record {
  latch : l.start.latch ≡ l.initial.start.latch;
  low : l.place ≤ l.part.rounds.more;
  stands : StandsAt (λ round. g.D.Dial.told (g.D.RoundDial.of_round l.devices.dial.now round)) l.part.settings.now l.part.openings.now l.part.messages.now l.part.rounds.before l.place l.start.begun l.came;
}
