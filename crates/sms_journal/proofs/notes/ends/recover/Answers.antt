use Rattle.std.proofs.Common.{◌≡◌, ◌++◌, ◌∷◌, [], List, sym, subst, take, ◌+◌, arith, rules}
use Rattle.std.specs.List.{AllZip}
use Rattle.sms_message.specs.declared.ends.MessageEnd.{MessageEnd}
use Rattle.sms_journal.specs.Recovered.{IsRecoveredEnd}
use Rattle.sms_journal.proofs.Lists.{zip_more}
use Rattle.sms_journal.proofs.notes.ends.recover.Goals as goal

pub loop-message-preserved : goal.loop-message-preserved
loop-message-preserved c =
    let more : c.push.new.list.items ≡ c.loop-message.ends.items ++ c.in_ok-message_end.field-0 ∷ [] = search rules in
    subst (λ (l : List (MessageEnd (Unit {0}))). AllZip (IsRecoveredEnd c.args.rules.now c.args.notes.now) (take (c.loop-message.message-index + 1) c.args.messages.now) l) (sym more)
    (zip_more (IsRecoveredEnd c.args.rules.now c.args.notes.now) c.args.messages.now c.loop-message.ends.items c.loop-message.message-index c.message-item.result c.in_ok-message_end.field-0 (omega arith) c.message-item.is c.loop-message.invariant c.in_ok-message_end.ensures)
