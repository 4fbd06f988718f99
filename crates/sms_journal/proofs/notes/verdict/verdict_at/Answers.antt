use Rattle.std.proofs.Common.{rules, ◌≡◌, Some}
use Rattle.sms_journal.specs.DenseMap.{value_at}
use Rattle.sms_journal.proofs.Admitting.{at_place}
use Rattle.sms_journal.proofs.notes.verdict.verdict_at.Goals as goal

pub returns-in-Ok : goal.returns-in-Ok
returns-in-Ok c =
    let at : value_at c.args.places.now c.args.index ≡ Some c.in-Some.place = search rules in
    (c.index-messages-place.result, at_place c.args.messages.now c.args.index (value_at c.args.places.now c.args.index) c.in-Some.place c.index-messages-place.result (c.requires c.args.index) at c.index-messages-place.is, c.in-Ok.ensures)
