use Rattle.std.proofs.Common.{rules}
use Rattle.sms_centre.proofs.Putting.{cut_behind}
use Rattle.sms_centre.proofs.said.put_cut.Goals as goal

pub returns-in-Ok-clause-answers : goal.returns-in-Ok-clause-answers
returns-in-Ok-clause-answers c =
    cut_behind c.args.submit c.args.number c.len-before.result c.args.out.now.items c.put_answer.new.out.items c.truncate.new.self.items (search rules) c.in-Ok.ensures.answers (search rules)
