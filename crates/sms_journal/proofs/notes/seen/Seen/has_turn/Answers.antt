use Rattle.std.proofs.Common.{rules, ◌≡◌, ℕ, List, ap, ◌+◌, ◌<◌, Some, None, sym, ◌∙◌}
use Rattle.std.specs.Prelude.{slice_get}
use Rattle.sms_journal.specs.DenseMap.{value_at}
use Rattle.sms_journal.specs.RunSize.{all_workers}
use Rattle.sms_journal.specs.Lawful.{place_of}
use Rattle.sms_journal.proofs.Admitting.{first_turn, no_other, no_turn, some_turn, turn_some}
use Rattle.sms_journal.proofs.notes.seen.Seen.has_turn.Goals as goal

-- a message that the round wasn't given
pub returns-in_default : goal.returns-in_default
returns-in_default c = λ rs ms notes sees.
    let none : value_at c.args.given.now.order c.args.index ≡ None = search rules in (
      (λ yes. absurd (cc)),
      (λ turn. absurd (no_turn c.args.size c.args.given.now.indexes.items notes c.args.index (sym (c.requires c.args.index) ∙ none) turn)),
    )

-- the first that its worker was dealt
pub returns-in_default-checked_sub : goal.returns-in_default-checked_sub
returns-in_default-checked_sub c = λ rs ms notes sees.
    let none : value_at c.args.self.now.starts c.args.index ≡ None = search rules in
    let at : value_at c.args.given.now.order c.args.index ≡ Some c.in-Some.place = search rules in
    let there : place_of c.args.given.now.indexes.items c.args.index ≡ Some c.in-Some.place = sym (c.requires c.args.index) ∙ at in
    let low : c.in-Some.place < all_workers c.args.size = search (rules, c.all_workers.ensures) in (
      (λ yes. first_turn c.args.size c.args.given.now.indexes.items notes c.args.index c.in-Some.place (sym (sees.starts c.args.index) ∙ none) there low),
      (λ turn. search rules),
    )

pub returns-in-Some-index_at : goal.returns-in-Some-index_at
returns-in-Some-index_at c = λ rs ms notes sees.
    let given = c.args.given.now.indexes.items in
    let none : value_at c.args.self.now.starts c.args.index ≡ None = search rules in
    let at : value_at c.args.given.now.order c.args.index ≡ Some c.in-Some.place = search rules in
    let there : place_of given c.args.index ≡ Some c.in-Some.place = sym (c.requires c.args.index) ∙ at in
    let is : c.in-Some-checked_sub.before + all_workers c.args.size ≡ c.in-Some.place = search (rules, c.all_workers.ensures) in
    let got : slice_get given c.in-Some-checked_sub.before ≡ Some c.in-Some-index_at.other =
    ap (λ (l : List ℕ). slice_get l c.in-Some-checked_sub.before) (sym c.as_slice.ensures.value) ∙ sym c.index_at.ensures ∙ c.in-Some-index_at.is in (
      (λ e. some_turn rs c.args.size ms given notes c.args.self.now c.args.index c.in-Some.place c.in-Some-checked_sub.before c.in-Some-index_at.other sees (sym (sees.starts c.args.index) ∙ none) there is got (sym c.has-in-Some-index_at.ensures ∙ e)),
      (λ turn. c.has-in-Some-index_at.ensures ∙ turn_some rs c.args.size ms given notes c.args.self.now c.args.index c.in-Some.place c.in-Some-checked_sub.before c.in-Some-index_at.other sees there is got turn),
    )

-- no message stands there
pub returns-in-None : goal.returns-in-None
returns-in-None c = λ rs ms notes sees.
    let given = c.args.given.now.indexes.items in
    let none : value_at c.args.self.now.starts c.args.index ≡ None = search rules in
    let at : value_at c.args.given.now.order c.args.index ≡ Some c.in-Some.place = search rules in
    let there : place_of given c.args.index ≡ Some c.in-Some.place = sym (c.requires c.args.index) ∙ at in
    let is : c.in-Some-checked_sub.before + all_workers c.args.size ≡ c.in-Some.place = search (rules, c.all_workers.ensures) in
    let nothing : slice_get given c.in-Some-checked_sub.before ≡ None =
    ap (λ (l : List ℕ). slice_get l c.in-Some-checked_sub.before) (sym c.as_slice.ensures.value) ∙ sym c.index_at.ensures ∙ c.in-None.is in (
      (λ yes. no_other c.args.size given notes c.args.index c.in-Some.place c.in-Some-checked_sub.before (sym (sees.starts c.args.index) ∙ none) there is nothing),
      (λ turn. search rules),
    )
