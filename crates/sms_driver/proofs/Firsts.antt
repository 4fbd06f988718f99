-- The first draw of a new window, by its keeper's seat.
use Rattle.std.proofs.Common.{◌≡◌, ◌+◌, ◌++◌, ◌≤◌, ◌∙◌, ℕ, List, [], refl, ap, sym, arith}
use Rattle.std.proofs.lemmas.Bool.{lt-ltb}
use mathlib.Core.Logic.{dite}
use native.Mathlib.Decide.{dec_lt}
use Rattle.sms_core.specs.Numbers.{times, once_below}
use Rattle.sms_window.specs.declared.view.View.{View}
use Rattle.sms_window.specs.Drawing.{HasDrawn}
use Rattle.sms_window.specs.Names.{HasNames}
use Rattle.sms_window.specs.Outcome.{opening_of, IsEnd}
use Rattle.sms_window.specs.Rule.{keeper}

module _ (limit : ℕ) (v w : View) (made : v ≡ keeper (opening_of limit 1)) (drawn : List ℕ) (draws : HasDrawn v drawn w) where
  -- it still has all names, and the numbers begin where they did
  all_names : HasNames 64 w
  all_names = record {
    name = ap (λ (x : View). x.name) draws.after ∙ ap (λ (x : View). x.name) made;
    family = ap (λ (x : View). x.family) draws.after ∙ ap (λ (x : View). x.family) made;
  }

  first_stays : w.first ≡ 1
  first_stays = ap (λ (x : View). x.first) draws.after ∙ ap (λ (x : View). x.first) made

  -- and has these numbers alone
  has_drawn : w.numbers ≡ drawn
  has_drawn = ap (λ (x : View). x.numbers) draws.after ∙ ap (λ (x : View). x.numbers ++ drawn) made

  -- if these are none, the window ends with the number that it began with, and no other was seen
  pub none_seen : (held next : ℕ) → drawn ≡ [] → IsEnd w held next → w.seen ≤ 1
  none_seen held next none end =
      let seen = end.seen in
      let all = end.drawn all_names.family in
      let once : 0 ≡ once_below 1 next = (λ i. times 1 (sym (has_drawn ∙ none) i) + once_below 1 (sym first_stays i)) ∙ all 1 in
      dite (dec_lt 1 next)
      (λ more. let one : once_below 1 next ≡ 1 = rw (lt-ltb 1 next more) refl in absurd (omega arith))
      (λ few. omega arith)
