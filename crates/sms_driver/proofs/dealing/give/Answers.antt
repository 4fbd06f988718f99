use Rattle.std.proofs.Common.{[], ◌∷◌, ◌++◌, ap, ◌∙◌}
use Rattle.sms_driver.proofs.Takes.{given}
use Rattle.sms_driver.proofs.dealing.give.Goals as goal

pub returns-clause-given : goal.returns-clause-given
returns-clause-given g c ds same =
    given (λ l. l.items) c.args.batches.now.items c.args.place c.index_mut-batch.result.now c.push.new.self ds c.args.item c.requires same
    (c.in_ok-push.ensures.items ∙ ap (λ l. l.items ++ c.args.item ∷ []) c.index_mut-batch.ensures.value)
