use Rattle.std.proofs.Common.{[], ◌∷◌, ◌∙◌, ap, rules}
use Rattle.sms_book.proofs.Moves.{tells_as}
use Rattle.sms_book.proofs.steps.check_in.Goals as goal

pub load-requires : goal.load-requires
load-requires c =
    let (es, ts, is) = c.requires.book in
    let (k, ps, there) = c.requires.holder in
    let me = c.take_in-keeper.ensures.seat es ts k ps is there in
    (search rules, c.requires.words, tells_as _ _ _ _ 0 _ (ap (λ m. m.1) me))

pub returns-clause-book : goal.returns-clause-book
returns-clause-book c es ts k ps is there =
    let me = c.take_in-keeper.ensures.seat es ts k ps is there in
    let (same_table, same_id, views) = c.into_badge.ensures in
    let (one_table, one_id, (after, told)) = c.load.ensures in
    views ∙ ap (λ (m : _). m.0 ∷ []) after ∙ ap (λ (m : _). m.0 ∷ []) me

pub returns-clause-entry : goal.returns-clause-entry
returns-clause-entry c es ts k ps is there =
    let me = c.take_in-keeper.ensures.seat es ts k ps is there in
    let (one_table, one_id, (after, told)) = c.load.ensures in
    (told es ts k ps (ap (λ m. m.0) me)).0

pub returns-clause-sums : goal.returns-clause-sums
returns-clause-sums c es ts is =
    let (k, ps, there) = c.requires.holder in
    let me = c.take_in-keeper.ensures.seat es ts k ps is there in
    let (one_table, one_id, (after, told)) = c.load.ensures in
    (told es ts k ps (ap (λ m. m.0) me)).1
