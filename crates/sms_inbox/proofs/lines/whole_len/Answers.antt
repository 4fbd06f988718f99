use Rattle.std.proofs.Common.{refl, rules}
use Rattle.sms_inbox.specs.Lines.{BeginsWith}
use Rattle.sms_inbox.proofs.Spelling.{whole_more}
use Rattle.sms_inbox.proofs.lines.whole_len.Goals as goal

pub loop-line-preserved : goal.loop-line-preserved
loop-line-preserved c =
    let begins : BeginsWith c.in-Some.line.now c.in-Some.rest.now c.loop-line.left.now = search rules in
    whole_more c.args.text.now c.loop-line.left.now c.in-Some.line.now c.in-Some.rest.now c.loop-line.whole _ c.loop-line.invariant begins refl
