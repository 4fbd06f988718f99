use Rattle.std.proofs.Common.{subst}
use Rattle.std.specs.Prelude.{IfErr, IfOk, length}
use Rattle.sms_book.specs.Openings.{credits_of}
use Rattle.sms_driver.specs.SendFaults.{IsFaultOfOne}
use Rattle.sms_send.specs.Rounds.{IsSentFrom}
use Rattle.sms_send.proofs.sending.rounds.dial_round.Goals as goal

pub returns-clause-sent : goal.returns-clause-sent
returns-clause-sent g c =
    subst (λ d. IfOk c.drive_round.result (IsSentFrom (g.D.Dial.told d) c.args.settings.now (length c.args.openings.now) (credits_of c.args.openings.now) c.args.messages.items)) c.in_round-dial.ensures c.drive_round.ensures.sent

pub returns-clause-refused : goal.returns-clause-refused
returns-clause-refused g c =
    subst (λ d. IfErr c.drive_round.result (IsFaultOfOne (g.D.Dial.refuses d) (g.D.Dial.told d) c.args.settings.now.bind_settings.settings.mode c.args.settings.now.binds)) c.in_round-dial.ensures c.drive_round.ensures.refused
