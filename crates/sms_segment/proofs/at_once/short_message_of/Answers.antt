use Rattle.std.proofs.Common.{chars}
use Rattle.sms_alphabet.specs.Spelling.{chosen}
use Rattle.sms_segment.proofs.AtOnceLemmas.{one_exactly, whole_exactly}
use Rattle.sms_segment.proofs.at_once.short_message_of.Goals as goal

pub returns-in-Ok-clause-one : goal.returns-in-Ok-clause-one
returns-in-Ok-clause-one c reference = one_exactly (chosen (chars c.args.text.now)) c.in-Ok.found reference c.in-Ok.ensures

pub returns-in-Ok-clause-part : goal.returns-in-Ok-clause-part
returns-in-Ok-clause-part c = whole_exactly (chosen (chars c.args.text.now)) c.in-Ok.found c.in-Ok.ensures
