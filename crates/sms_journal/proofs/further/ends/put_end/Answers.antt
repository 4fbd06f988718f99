use Rattle.std.proofs.Common.{◌≡◌, ◌∙◌, [], false, sym, rules}
use Rattle.std.proofs.lemmas.List.{get_or_read}
use Rattle.sms_journal.specs.Left.{is_left}
use Rattle.sms_journal.proofs.Puts.{end_kept, none_popped, none_put}
use Rattle.sms_journal.proofs.further.ends.put_end.Goals as goal

pub returns-then-not-is_left-clause-over : goal.returns-then-not-is_left-clause-over
returns-then-not-is_left-clause-over g c =
    let e = c.index.result.now in
    let not : is_left e.result ≡ false = search rules in
    end_kept c.args.ends.now.items c.args.later.now.items c.args.place e c.requires (get_or_read c.args.ends.now.items c.args.place e c.requires c.index.ensures e) not

pub returns-in_default-clause-over : goal.returns-in_default-clause-over
returns-in_default-clause-over g c =
    let same = c.in_default.ensures.items in
    let none : c.args.later.now.items ≡ [] = none_popped c.args.later.now.items c.pop_front.new.self.items c.pop_front.ensures.rest same in
    none_put c.args.ends.now.items c.args.later.now.items c.pop_front.new.self.items c.args.place none (sym same ∙ none)
