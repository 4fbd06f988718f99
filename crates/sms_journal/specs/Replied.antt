-- Answers to attempts, as the model has them.
use Rattle.std.specs.Prelude.{Option, Some, None}
use Rattle.sms_core.specs.Replies.{Reply}
use Rattle.sms_journal.specs.declared.audit.part.Answer.{Answer}

abbrev pub said : Option Answer → Option Reply
said None = None
said (Some answer) = Some (record { status = answer.status; nack = answer.nack })
