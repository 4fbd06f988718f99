use Rattle.std.proofs.Common.{[], ◌∷◌, sym, ◌∙◌, subst, List}
use Rattle.std.specs.Prelude.{slice_set}
use Rattle.sms_book.specs.declared.rule.Portion.{Portion}
use Rattle.sms_book.specs.declared.rule.View.TheVariants.{Book, Lent, Holder}
use Rattle.sms_book.specs.Rule.{away}
use Rattle.sms_book.specs.Sums.{MoveBy}
use Rattle.sms_book.proofs.Moves.{splits}
use Rattle.sms_book.proofs.steps.check_out.Goals as goal

pub split_off-requires-clause-allowed : goal.split_off-requires-clause-allowed
split_off-requires-clause-allowed g c =
    let l = c.requires.book in
    let p = c.requires.picked in
    let by = subst (λ (x : List Portion × List Portion). MoveBy l.portions x.0 l.had x.1) (λ i. (p.0 i, p.1 i)) l.moves in
    (Lent l.entries l.had l.number l.portions, l.is, splits _ _ _ l.number l.entries l.had _ l.portions _ by)

pub returns-clause-book : goal.returns-clause-book
returns-clause-book g c es ts k ps is =
    let p = c.requires.picked in
    c.split_off.ensures.left (Lent es ts k ps) is ∙ (λ i. Book (slice_set es k (away (sym p.0 i))) (sym p.1 i) ∷ [])

pub returns-clause-holder : goal.returns-clause-holder
returns-clause-holder g c es ts k ps is = c.split_off.ensures.right (Lent es ts k ps) is ∙ (λ i. Holder k (sym c.requires.picked.0 i) ∷ [])
