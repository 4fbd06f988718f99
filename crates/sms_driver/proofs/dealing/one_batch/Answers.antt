use Rattle.std.proofs.Common.{[], ◌∷◌, ◌++◌, map, sym, ap, ◌∙◌}
use Rattle.sms_driver.proofs.Dealt.{dealt_to_one}
use Rattle.sms_driver.proofs.dealing.one_batch.Goals as goal

pub returns-clause-dealt : goal.returns-clause-dealt
returns-clause-dealt g c =
    ap (map (λ l. l.items)) (c.push_reserved.ensures.items ∙ ap (λ ls. ls ++ c.args.items ∷ []) c.in_ok-batches.ensures.items)
    ∙ sym (dealt_to_one c.args.items.items)
