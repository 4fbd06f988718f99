use Rattle.std.proofs.Common.{List, subst, sym, arith}
use Rattle.std.specs.List.{AllZip}
use Rattle.sms_message.specs.declared.message.Message.{Message}
use Rattle.sms_journal.specs.Left.{SaysSame}
use Rattle.sms_journal.proofs.Copies.{left_more, left_whole}
use Rattle.sms_journal.proofs.OverLists.{reached}
use Rattle.sms_journal.proofs.further.left.messages_left.Goals as goal

pub loop-place-preserved : goal.loop-place-preserved
loop-place-preserved g c =
    subst (λ (l : List Message). AllZip SaysSame l c.add_left.new.left.items)
    (sym (left_more c.args.messages.now c.args.ends.now c.loop-place.place c.index-messages-place.result c.index-ends-place.result (omega (arith, c.min-place-end.ensures)) (omega (arith, c.min-place-end.ensures)) c.index-messages-place.is c.index-ends-place.is))
    (c.in_ok-add_left.ensures _ c.loop-place.invariant)

pub returns : goal.returns
returns g c =
    subst (λ (l : List Message). AllZip SaysSame l c.loop-place.left.items)
    (left_whole c.args.messages.now c.args.ends.now c.loop-place.place (reached c.args.messages.now c.args.ends.now c.loop-place.place (omega (arith, c.min-place-end.ensures, c.loop-place-test.false))))
    c.loop-place.invariant
