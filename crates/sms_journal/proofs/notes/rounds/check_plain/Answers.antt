use Rattle.std.proofs.lemmas.Result.{on_ok_weaker}
use Rattle.sms_journal.proofs.Rounds.{round_goes, round_stops}
use Rattle.sms_journal.proofs.notes.rounds.check_plain.Goals as goal

pub returns-clause-lawful : goal.returns-clause-lawful
returns-clause-lawful c = λ before.
    on_ok_weaker c.check_round.result
    (round_goes c.args.rules.now c.args.messages.now before c.args.going.now.number c.args.going.now.size c.args.going.now.given.indexes.items c.args.round.now c.requires.one c.requires.none) c.check_round.ensures.lawful

pub returns-clause-faulty : goal.returns-clause-faulty
returns-clause-faulty c = λ k before is.
    round_stops c.args.rules.now c.args.messages.now before c.args.going.now.number c.args.going.now.size c.args.going.now.given.indexes.items c.args.round.now k c.requires.one c.requires.none (c.check_round.ensures.faulty k is)
