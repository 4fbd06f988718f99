use Rattle.std.proofs.Common.{[], ◌∷◌, ◌++◌, ap, ◌∙◌}
use Rattle.sms_driver.proofs.dealing.take_over.Goals as goal

pub returns-clause-taken : goal.returns-clause-taken
returns-clause-taken g c ls x is =
    let t = c.take_next-end.ensures.taken ls x is in
    (c.push_reserved.ensures.items ∙ ap (λ y. c.args.out.now.items ++ y ∷ []) t.0, t.1)
