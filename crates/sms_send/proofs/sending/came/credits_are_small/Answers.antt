use Rattle.std.proofs.Common.{◌≡◌, inl, inr, ℕ, ◌+◌, ◌<◌, List, length, get_or, sym, subst, ◌∙◌, arith}
use Rattle.std.proofs.lemmas.List.{get_or-map}
use Rattle.std.proofs.Math.Nat.{eq-or-lt_of_le}
use Rattle.sms_book.specs.Openings.{credits_of}
use Rattle.sms_book.specs.Portions.{topped_at}
use Rattle.sms_book.specs.declared.opening.Opening.{Opening}
use Rattle.sms_send.proofs.sending.came.credits_are_small.Goals as goal

small_more : (openings : List Opening) (place : ℕ) (o : Opening) → place < length openings → o ≡ get_or openings place o → o.credits < 18446744073709551616
    → ((i : ℕ) → i < place → topped_at (credits_of openings) i < 18446744073709551616) → (i : ℕ) → i < place + 1 → topped_at (credits_of openings) i < 18446744073709551616
small_more openings place o low is fits before i less =
    elim (eq-or-lt_of_le {n = i} {m = place} (omega arith)) [
      | inl same ↦ subst (λ (n : ℕ). n < 18446744073709551616) (sym (here i same)) fits
      | inr under ↦ before i under
    ]
  where
    here : (i : ℕ) → i ≡ place → topped_at (credits_of openings) i ≡ o.credits
    here i same = subst (λ (k : ℕ). topped_at (credits_of openings) k ≡ o.credits) (sym same) (get_or-map (λ (x : Opening). x.credits) openings place o 0 low ∙ sym (λ j. (is j).credits))

pub loop-opening-preserved : goal.loop-opening-preserved
loop-opening-preserved c =
    small_more c.args.openings.now c.loop-opening.opening-index c.opening-item.result (omega arith) c.opening-item.is c.is_small.ensures c.loop-opening.invariant
