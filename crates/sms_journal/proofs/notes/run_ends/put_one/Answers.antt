use Rattle.std.proofs.Common.{rules, ◌≡◌, []}
use Rattle.sms_journal.proofs.RunEnds.{none_put}
use Rattle.sms_journal.proofs.notes.run_ends.put_one.Goals as goal

pub returns-in_default-clause-over : goal.returns-in_default-clause-over
returns-in_default-clause-over c =
    let none : c.args.later.now.items ≡ [] = search rules in
    let also : c.pop_front.new.self.items ≡ [] = search rules in
    none_put c.args.ends.now.items c.args.later.now.items c.pop_front.new.self.items c.args.place none also
