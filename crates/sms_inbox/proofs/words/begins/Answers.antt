use Rattle.std.proofs.Common.{sym}
use Rattle.sms_inbox.proofs.Splits.{begins_short}
use Rattle.sms_inbox.proofs.words.begins.Goals as goal

pub returns-then-word-key-clause-begins : goal.returns-then-word-key-clause-begins
returns-then-word-key-clause-begins c = sym (begins_short c.args.key.now c.args.word.now c.if-word-key.true)
