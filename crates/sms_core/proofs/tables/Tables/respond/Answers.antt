use Rattle.std.proofs.Common.{ap}
use Rattle.sms_core.specs.declared.mark.Mark.TheVariants.{Open}
use Rattle.sms_core.specs.Slots.{Table}
use Rattle.sms_core.proofs.Marked.{marks_answered, at-slice_get}
use Rattle.sms_core.proofs.tables.Tables.respond.Goals as goal

pub returns-then-answer-clause-sound : goal.returns-then-answer-clause-sound
returns-then-answer-clause-sound c =
    let t = c.args.self.now in
    let a = c.if-answer.ensures.answered in
    let there = at-slice_get t.slots.marks a.slot (Open a.request c.args.number) a.waits in
    let kept = marks_answered t.ledger.requests t.slots.marks a.slot a.request c.args.number c.args.status c.args.nack c.requires.marks there.0 there.1 in
    record { limit = c.requires.limit; next = c.requires.next; marks = rw (ap (λ (s : Table). s.marks) a.after) kept }
