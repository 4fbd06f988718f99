use Rattle.std.proofs.Common.{◌≡◌, ◌++◌, ◌∷◌, [], List, sym, subst, take, ◌+◌, arith, rules}
use Rattle.std.specs.List.{AllZip}
use Rattle.sms_message.specs.declared.message.Message.{Message}
use Rattle.sms_journal.specs.Left.{SaysSame}
use Rattle.sms_journal.proofs.OverLists.{zip_more}
use Rattle.sms_journal.proofs.further.left.copies_of.Goals as goal

pub loop-message-preserved : goal.loop-message-preserved
loop-message-preserved c =
    let more : c.push.new.self.items ≡ c.loop-message.copies.items ++ c.in_ok-copy.copy ∷ [] = search rules in
    subst (λ (l : List Message). AllZip SaysSame (take (c.loop-message.message-index + 1) c.args.messages.now) l) (sym more)
    (zip_more SaysSame c.args.messages.now c.loop-message.copies.items c.loop-message.message-index c.message-item.result c.in_ok-copy.copy (omega arith) c.message-item.is c.loop-message.invariant c.in_ok-copy.ensures)
