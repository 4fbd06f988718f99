use Rattle.std.proofs.Common.{[], ◌∷◌, sym, ◌∙◌, ap, subst, rules}
use Rattle.sms_bind.specs.LogRule.{IsSettled}
use Rattle.sms_bind.proofs.LogMoves.{tells, same_view}
use Rattle.sms_bind.proofs.log.steps.tell.Goals as goal

pub load-requires : goal.load-requires
load-requires c = (search rules, c.requires.table.1, tells _ _ _ _)

pub returns-clause-same : goal.returns-clause-same
returns-clause-same c =
    let (my_table, my_id, my_view, i_carry_none) = c.into_seat-mine.ensures in
    let (one_table, one_id, (after, told)) = c.load.ensures in
    let (same_table, same_id, views) = c.into_badge.ensures in
    let was = ap (λ (x : _). x.views) c.replace.ensures.value in
    (search rules, views ∙ ap (λ (m : _). m.0 ∷ []) after ∙ sym my_view ∙ was)

pub returns-clause-settled : goal.returns-clause-settled
returns-clause-settled c v is =
    let (my_table, my_id, my_view, i_carry_none) = c.into_seat-mine.ensures in
    let (one_table, one_id, (after, told)) = c.load.ensures in
    let was = ap (λ (x : _). x.views) c.replace.ensures.value in
    subst IsSettled (same_view _ _ _ (sym was ∙ my_view) is) told
