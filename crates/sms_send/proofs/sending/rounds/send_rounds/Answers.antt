use Rattle.std.specs.Prelude.{ℕ}
use Rattle.sms_send.proofs.RoundSteps.{came_to}
use Rattle.sms_send.proofs.sending.rounds.send_rounds.Goals as goal

pub returns-in-Over-clause-sent : goal.returns-in-Over-clause-sent
returns-in-Over-clause-sent g c =
    let refuses = λ (round : ℕ). g.D.Dial.refuses (g.D.RoundDial.of_round c.args.devices.now.dial.now round) in
    let tells = λ (round : ℕ). g.D.Dial.told (g.D.RoundDial.of_round c.args.devices.now.dial.now round) in
    let part = c.args.part in
    came_to refuses tells part.settings.now part.openings.now part.messages.now part.rounds.before c.loop-place.place part.rounds.more c.take_round.new.start.begun c.in-Over.result
    c.loop-place.invariant.low c.in-Over.ensures.step
