use Rattle.std.proofs.Common.{map, string_bytes}
use Rattle.sms_files.proofs.GoodTexts.{all_said}
use Rattle.sms_files.proofs.memory.calls.first_bad_answer.Goals as goal

pub returns-in-Ok-clause-none : goal.returns-in-Ok-clause-none
returns-in-Ok-clause-none c = λ none. all_said (map string_bytes c.args.texts.now) _ c.in-Ok.ensures.ok.1

pub returns-in-Err-BadAnswer-clause-some : goal.returns-in-Err-BadAnswer-clause-some
returns-in-Err-BadAnswer-clause-some c = c.of.ensures.answer c.in-Err-BadAnswer.place (let failed = c.in-Err-BadAnswer.is in let bad = c.in-Err-BadAnswer.field-0-is in cc)
