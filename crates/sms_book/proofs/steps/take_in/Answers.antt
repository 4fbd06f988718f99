use Rattle.std.proofs.Common.{sym, ◌∙◌, ap, rules}
use Rattle.sms_book.specs.Rule.{lent}
use Rattle.sms_book.proofs.Moves.{joins_as, same_view}
use Rattle.sms_book.proofs.steps.take_in.Goals as goal

pub join_seat-requires : goal.join_seat-requires
join_seat-requires c =
    let (es, ts, is) = c.requires.book in
    let (k, ps, there) = c.requires.holder in
    let (keeper_table, keeper_id, keeper_view, keeper_none) = c.into_seat-keeper.ensures in
    let (their_table, their_id, their_view, they_carry_none) = c.into_seat-theirs.ensures in
    let was = ap (λ (x : _). x.views) c.replace.ensures.value in
    let was' = ap (λ (x : _). x.views) c.replace-2.ensures.value in
    (search rules, search rules, they_carry_none, c.requires.words, joins_as _ _ _ _ k es ts ps _ _ (same_view _ _ _ (sym was ∙ keeper_view) is) (same_view _ _ _ (sym was' ∙ their_view) there))

pub returns-clause-seat : goal.returns-clause-seat
returns-clause-seat c es ts k ps is there =
    let (keeper_table, keeper_id, keeper_view, keeper_none) = c.into_seat-keeper.ensures in
    let (their_table, their_id, their_view, they_carry_none) = c.into_seat-theirs.ensures in
    let (one_table, one_id, joined) = c.join_seat.ensures in
    let was = ap (λ (x : _). x.views) c.replace.ensures.value in
    let was' = ap (λ (x : _). x.views) c.replace-2.ensures.value in
    let v = same_view _ _ _ (sym was ∙ keeper_view) is in
    let w = same_view _ _ _ (sym was' ∙ their_view) there in
    joined ∙ (λ i. (lent (v i) (w i), keeper_none i))
