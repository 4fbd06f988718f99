use Rattle.std.proofs.Common.{◌≡◌, ◌++◌, ◌∷◌, [], ◌∙◌, sym, rules}
use Rattle.sms_journal.specs.Left.{is_left}
use Rattle.sms_journal.proofs.Copies.{one_added}
use Rattle.sms_journal.proofs.further.left.add_left.Goals as goal

pub returns-in_ok-push : goal.returns-in_ok-push
returns-in_ok-push g c =
    let more : c.push.new.self.items ≡ c.args.left.now.items ++ c.in_ok-copy.copy ∷ [] = search rules in
    λ ms all. one_added ms c.args.left.now.items c.push.new.self.items c.args.message.now c.in_ok-copy.copy (is_left c.args.end.now.result) (sym c.is_left.ensures ∙ c.if-is_left.true) all c.in_ok-copy.ensures more
