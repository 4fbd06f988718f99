use Rattle.std.proofs.Common.{rules}
use Rattle.sms_inbox.specs.Lines.{BeginsWith, IsLineOf}
use Rattle.sms_inbox.proofs.Reading.{one_more}
use Rattle.sms_inbox.proofs.lines.read_inbox.Goals as goal

pub loop-line-preserved : goal.loop-line-preserved
loop-line-preserved c =
    let r = c.in-Some-2.record in
    let begins : BeginsWith c.in-Some.line.now c.in-Some.rest.now c.loop-line.left.now = search rules in
    let here : IsLineOf c.in-Some.line.now r = search rules in
    one_more c.args.text.now c.loop-line.left.now c.in-Some.line.now c.in-Some.rest.now c.loop-line.records.items c.push.new.records.items r c.loop-line.invariant begins here c.in_ok-push.ensures
