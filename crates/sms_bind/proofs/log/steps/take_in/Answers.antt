use Rattle.std.proofs.Common.{◌<◌, [], ◌∷◌, sym, ◌∙◌, ap, subst, rules}
use Rattle.sms_bind.specs.declared.log.rule.View.{View}
use Rattle.sms_bind.specs.LogRule.{joined}
use Rattle.sms_bind.proofs.LogMoves.{joins, same_view}
use Rattle.sms_bind.proofs.log.steps.take_in.Goals as goal

pub join_seat-requires : goal.join_seat-requires
join_seat-requires c =
    let (v, is, some_part) = c.requires.badge in
    let (my_table, my_id, my_view, i_carry_none) = c.into_seat-mine.ensures in
    let (their_table, their_id, their_view, they_carry_none) = c.into_seat-theirs.ensures in
    let was = ap (λ (x : _). x.views) c.replace.ensures.value in
    let same = same_view _ _ _ (sym was ∙ my_view) is in
    (search rules, search rules, they_carry_none, c.requires.table.2, joins _ _ _ _ (subst (λ (u : View). 0 < u.parts) (sym same) some_part))

pub returns-clause-joined : goal.returns-clause-joined
returns-clause-joined c v w is there =
    let (my_table, my_id, my_view, i_carry_none) = c.into_seat-mine.ensures in
    let (their_table, their_id, their_view, they_carry_none) = c.into_seat-theirs.ensures in
    let (one_table, one_id, both) = c.join_seat.ensures in
    let (same_table, same_id, views) = c.into_badge.ensures in
    let was = ap (λ (x : _). x.views) c.replace.ensures.value in
    let was' = ap (λ (x : _). x.views) c.replace-2.ensures.value in
    let mine = same_view _ _ _ (sym was ∙ my_view) is in
    let theirs = same_view _ _ _ (sym was' ∙ their_view) there in
    views ∙ ap (λ (m : _). m.0 ∷ []) both ∙ (λ i. joined (mine i) (theirs i) ∷ [])
