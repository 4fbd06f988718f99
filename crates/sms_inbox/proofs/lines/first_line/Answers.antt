use Rattle.std.proofs.Common.{◌+◌, sym, subst, take}
use Rattle.sms_inbox.specs.Lines.{BeginsWith}
use Rattle.sms_inbox.proofs.Feeds.{all_behind, begins, no_feed}
use Rattle.sms_inbox.proofs.lines.first_line.Goals as goal

pub returns-then-at-text : goal.returns-then-at-text
returns-then-at-text c =
    let text = c.args.text.now in
    subst (λ rest. BeginsWith (take (c.feed_at-at.result + 1) text) rest text) (sym (all_behind text (c.feed_at-at.result + 1))) (begins text c.feed_at-at.result c.feed_at-at.ensures.place c.if-at-text.true)

pub returns-else-at-text : goal.returns-else-at-text
returns-else-at-text c = no_feed c.args.text.now c.feed_at-at.result c.feed_at-at.ensures.place c.if-at-text.false
