use Rattle.std.proofs.Common.{◌∙◌, ap, refl, rules}
use Rattle.sms_bind.specs.Follows.{held_none, most_held}
use Rattle.sms_driver.specs.Reads.{reading_of}
use Rattle.sms_driver.proofs.Reading.{has_read}
use Rattle.sms_driver.proofs.threads.listening.read_task.Goals as goal

pub returns-clause-read : goal.returns-clause-read
returns-clause-read g c =
    let task = c.args.reader_task in
    let end = c.read_bind.ensures in
    let read = has_read c.args.rules.now.turns g.Rd.Read.remaining g.Rd.Read.remaining (reading_of task) end.old end.new (held_none task.seat (most_held task.follow.limit)) c.read_bind.result (g.Rd.ReadsBind.keeps c.into_inner-input.result)
    (ap g.Rd.Read.remaining (end.is ∙ c.into_inner-input.ensures)) end.none (search rules) end.rings (search (rules, end.hands)) refl (search (rules, end.read)) in
    (read.0, read.1 ∙ ap g.Rd.ReadsBind.keeps c.into_inner-input.ensures)
