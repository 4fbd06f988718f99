use Rattle.std.proofs.Common.{rules, ◌≡◌, ◌<◌, Some, None, arith}
use Rattle.sms_journal.specs.DenseMap.{value_in}
use Rattle.sms_journal.proofs.Admitting.{again_tries, first_try, some_tries, tries_again}
use Rattle.sms_journal.proofs.notes.seen.Seen.may_try.Goals as goal

pub returns-in-None : goal.returns-in-None
returns-in-None c = λ size ms notes sees.
    let last = sees.tries c.args.message c.args.part in
    let at : value_in c.args.self.now.tries c.args.part c.args.message ≡ None = search rules in
    let kept = value_in c.args.self.now.tries c.args.part c.args.message in (
      (λ yes. first_try c.args.rules.now notes c.args.message c.args.part kept last at (search (yes, rules))),
      (λ may. let some = some_tries c.args.rules.now notes c.args.message c.args.part may in search (some, rules)),
    )

pub returns-then-tries-lt1 : goal.returns-then-tries-lt1
returns-then-tries-lt1 c = λ size ms notes sees.
    let last = sees.tries c.args.message c.args.part in
    let at : value_in c.args.self.now.tries c.args.part c.args.message ≡ Some c.in-Some.tries = search rules in
    let none : c.in-Some.tries.left < 1 = search rules in
    let kept = value_in c.args.self.now.tries c.args.part c.args.message in (
      (λ e. absurd (cc)),
      (λ may. let some = (tries_again c.args.rules.now notes c.args.message c.args.part kept c.in-Some.tries last at may).0 in absurd (omega (arith, some, none))),
    )

pub returns-else-tries-lt1 : goal.returns-else-tries-lt1
returns-else-tries-lt1 c = λ size ms notes sees.
    let last = sees.tries c.args.message c.args.part in
    let at : value_in c.args.self.now.tries c.args.part c.args.message ≡ Some c.in-Some.tries = search rules in
    let some : 0 < c.in-Some.tries.left = search rules in
    let kept = value_in c.args.self.now.tries c.args.part c.args.message in
    let retried = c.is_retried.ensures c.args.rules.now size ms notes sees in (
      (λ e. again_tries c.args.rules.now notes c.args.message c.args.part kept c.in-Some.tries last at some (retried.0 e)),
      (λ may. retried.1 (tries_again c.args.rules.now notes c.args.message c.args.part kept c.in-Some.tries last at may).1),
    )
