use Rattle.std.proofs.Common.{◌≡◌, [], ◌∷◌, Some, refl, ap, sym, ◌∙◌, subst, ℕ}
use Rattle.std.specs.Prelude.{slice_get}
use Rattle.sms_book.specs.declared.rule.View.{View}
use Rattle.sms_book.specs.declared.rule.View.TheVariants.{Book}
use Rattle.sms_book.specs.Rule.{at_home, left_dealt, right_dealt}
use Rattle.sms_book.proofs.Moves.{deals, dealt_views}
use Rattle.sms_book.proofs.steps.deal.Goals as goal

pub split_off-requires-clause-allowed : goal.split_off-requires-clause-allowed
split_off-requires-clause-allowed g c =
    let l = c.requires.here in
    let here = subst (λ (k : ℕ). slice_get l.entries k ≡ Some (at_home l.portions)) c.requires.picked l.entry in
    (Book l.entries l.totals, l.is, deals _ _ _ _ l.entries l.totals l.portions (Book l.entries l.totals) refl here)

pub returns-clause-book : goal.returns-clause-book
returns-clause-book g c es ts ps is here =
    let number = sym c.requires.picked in
    let dealt = dealt_views c.args.number es ts ps (Book es ts) refl here in
    c.split_off.ensures.left (Book es ts) is ∙ (λ i. left_dealt (number i) (Book es ts) ∷ []) ∙ ap (λ (v : View). v ∷ []) dealt.0

pub returns-clause-holder : goal.returns-clause-holder
returns-clause-holder g c es ts ps is here =
    let number = sym c.requires.picked in
    let dealt = dealt_views c.args.number es ts ps (Book es ts) refl here in
    c.split_off.ensures.right (Book es ts) is ∙ (λ i. right_dealt (number i) (Book es ts) ∷ []) ∙ ap (λ (v : View). v ∷ []) dealt.1
