use Rattle.std.specs.Prelude.{ℕ}
use Rattle.sms_send.proofs.RoundSteps.{rows_if, step_over}
use Rattle.sms_send.proofs.sending.rounds.last_round.Goals as goal

pub next_round-sent-requires-clause-rows : goal.next_round-sent-requires-clause-rows
next_round-sent-requires-clause-rows g c κs within =
    let refuses = λ (round : ℕ). g.D.Dial.refuses (g.D.RoundDial.of_round c.args.devices.now.dial.now round) in
    let tells = λ (round : ℕ). g.D.Dial.told (g.D.RoundDial.of_round c.args.devices.now.dial.now round) in
    let run = c.args.part.settings.now in
    let openings = c.args.part.openings.now in
    let ms = c.args.part.messages.now in
    rows_if refuses tells run openings ms c.args.part.rounds.before c.args.part.rounds.more c.args.start.now.begun c.args.came c.requires.stands

pub returns-clause-ended : goal.returns-clause-ended
returns-clause-ended g c =
    let refuses = λ (round : ℕ). g.D.Dial.refuses (g.D.RoundDial.of_round c.args.devices.now.dial.now round) in
    let tells = λ (round : ℕ). g.D.Dial.told (g.D.RoundDial.of_round c.args.devices.now.dial.now round) in
    let run = c.args.part.settings.now in
    let openings = c.args.part.openings.now in
    let ms = c.args.part.messages.now in
    let e = c.next_round-sent.ensures in
    step_over refuses tells run openings ms c.args.part.rounds.before c.args.part.rounds.more c.number-round.result c.args.start.now.begun c.next_round-sent.new.start.begun c.args.came c.next_round-sent.result c.ended_with.result
    c.number-round.ensures c.requires.stands e.sent e.started e.unstarted e.refused c.ended_with.ensures
