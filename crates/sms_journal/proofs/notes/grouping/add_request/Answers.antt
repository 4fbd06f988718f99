use Rattle.std.proofs.Common.{◌≡◌, ◌∙◌, sym, [], ◌∷◌, true, false, nat_eq}
use Rattle.std.specs.Prelude.{◌==◌, if◌then◌else◌}
use Rattle.std.specs.HashMap.{get}
use Rattle.std.specs.Option.{is_some, unwrap_or}
use Rattle.sms_journal.specs.DenseMap.{value_at}
use Rattle.sms_journal.proofs.SentParts.{first_more, first_stays, other_more, others_stay}
use Rattle.sms_journal.proofs.notes.grouping.add_request.Goals as goal

-- a message that has a request
pub returns-then-has-clause-turn : goal.returns-then-has-clause-turn
returns-then-has-clause-turn c = λ q.
    let some : is_some (value_at c.args.groups.now.firsts c.args.index) ≡ true = sym c.has.ensures ∙ c.if-has.true in
    others_stay c.args.index q (value_at c.args.groups.now.firsts) (unwrap_or (get nat_eq c.args.groups.now.others q) []) (unwrap_or (get nat_eq c.add.new.others q) []) c.args.request some (c.requires q) (c.in_ok-add.ensures q)

pub returns-then-has-clause-added : goal.returns-then-has-clause-added
returns-then-has-clause-added c = λ q.
    other_more (value_at c.args.groups.now.firsts q) (unwrap_or (get nat_eq c.args.groups.now.others q) []) (unwrap_or (get nat_eq c.add.new.others q) []) (if c.args.index == q then c.args.request ∷ [] else []) (c.in_ok-add.ensures q)

pub returns-clause-turn : goal.returns-clause-turn
returns-clause-turn c = λ q.
    first_stays c.args.index q (value_at c.args.groups.now.firsts q) (value_at c.put.new.self q) (unwrap_or (get nat_eq c.args.groups.now.others q) []) c.args.request (c.requires q) (c.in_ok-put.ensures q)

pub returns-clause-added : goal.returns-clause-added
returns-clause-added c = λ q.
    let none : is_some (value_at c.args.groups.now.firsts c.args.index) ≡ false = sym c.has.ensures ∙ c.if-has.false in
    first_more c.args.index q (value_at c.args.groups.now.firsts) (value_at c.put.new.self q) (unwrap_or (get nat_eq c.args.groups.now.others q) []) c.args.request none (c.requires q) (c.in_ok-put.ensures q)
