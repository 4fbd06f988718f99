-- Which queue is due first, on the way through all of them.
use Rattle.std.proofs.Common.{◌≡◌, ◌<◌, ◌≤◌, ◌+◌, ℕ, true, false, List, length, get_or, Some, None, inl, inr, refl, sym, ap, ◌∙◌, arith}
use Rattle.std.specs.Prelude.{◌⊎◌, Option, option_and_then, slice_get, nat_le, nat_lt, if◌then◌else◌}
use mathlib.Core.Logic.{dite}
use native.Mathlib.Decide.{ℕ_discrete}
use Rattle.std.proofs.lemmas.Bool.{leb-true, leb-false, ltb-true, ltb-false}
use Rattle.std.proofs.lemmas.Option.{slice_get-get_or, slice_get_within}
use Rattle.sms_worker.specs.declared.state.open.SegmentPlace.{SegmentPlace}
use Rattle.sms_worker.specs.declared.state.queue.Head.{Head}
use Rattle.sms_worker.specs.declared.state.queue.Queue.{Queue}
use Rattle.sms_worker.specs.Queues.{IsDue, NoneIsDue, due_at, first_in, sooner_of}
use Rattle.sms_worker.specs.PendingState.{PendingState}

pub first_at : (qs : List Queue) (k : ℕ) (d : Queue) → k < length qs → first_in qs k ≡ (get_or qs k d).first
first_at qs k d low = ap (option_and_then (λ (q : Queue). q.first)) (slice_get-get_or qs k d low)

pub first_low : (qs : List Queue) (k : ℕ) (place : SegmentPlace) → first_in qs k ≡ Some place → k < length qs
first_low qs k place is = low (slice_get qs k) refl is
  where
    low : (o : Option Queue) → slice_get qs k ≡ o → option_and_then (λ (q : Queue). q.first) o ≡ Some place → k < length qs
    low None at e = absurd (cc)
    low (Some q) at e = slice_get_within qs k q at

module _ (pending : List PendingState) (qs : List Queue) (now : ℕ) where
  -- of the first n queues, none is due before this one
  pub record IsBest (n : ℕ) (best : Head) : Type 0 where
    pub place : SegmentPlace
    pub first : first_in qs best.queue ≡ Some place
    pub due : due_at pending place ≡ best.due_ms
    pub come : best.due_ms ≤ now
    pub least : (j : ℕ) (other : SegmentPlace) → j < n → first_in qs j ≡ Some other → (best.due_ms < due_at pending other) ⊎ ((best.due_ms ≡ due_at pending other) × (best.queue ≤ j))
    pub low : best.queue < n

  abbrev pub BestOf : ℕ → Option Head → Type 0
  BestOf n None = (j : ℕ) (other : SegmentPlace) → j < n → first_in qs j ≡ Some other → now < due_at pending other
  BestOf n (Some best) = IsBest n best

  pub passes_empty : (i n : ℕ) (best : Option Head) → n ≡ i + 1 → first_in qs i ≡ None → BestOf i best → BestOf n best
  passes_empty i n None next empty best = λ j other low is. dite (ℕ_discrete j i) (λ same. (let e : None ≡ Some other = sym empty ∙ ap (first_in qs) (sym same) ∙ is in absurd (cc))) (λ ne. best j other (omega arith) is)
  passes_empty i n (Some head) next empty best =
      let low = best.low in
      record {
        place = best.place;
        first = best.first;
        due = best.due;
        come = best.come;
        low = omega arith;
        least = λ j other small is. dite (ℕ_discrete j i) (λ same. (let e : None ≡ Some other = sym empty ∙ ap (first_in qs) (sym same) ∙ is in absurd (cc))) (λ ne. best.least j other (omega arith) is);
      }

  module _ (i n : ℕ) (head : Head) (place : SegmentPlace) (next : n ≡ i + 1) (own : head.queue ≡ i) (first : first_in qs i ≡ Some place) (due : due_at pending place ≡ head.due_ms) where
    same_place : (j : ℕ) (other : SegmentPlace) → j ≡ i → first_in qs j ≡ Some other → due_at pending other ≡ head.due_ms
    same_place j other same is =
        let e : Some other ≡ Some place = sym is ∙ ap (first_in qs) same ∙ first in
        let p : other ≡ place = cc in
        ap (due_at pending) p ∙ due

    takes : head.due_ms ≤ now → ((j : ℕ) (other : SegmentPlace) → j < i → first_in qs j ≡ Some other → head.due_ms < due_at pending other) → IsBest n head
    takes come before = record {
      place = place;
      first = ap (first_in qs) own ∙ first;
      due = due;
      come = come;
      least = λ j other low is. dite (ℕ_discrete j i) (λ same. (let e = same_place j other same is in inr (sym e, omega arith))) (λ ne. inl (before j other (omega arith) is));
      low = omega arith;
    }

    passes : (best : Head) → IsBest i best → best.due_ms ≤ head.due_ms → IsBest n best
    passes best is late =
        let low = is.low in
        record {
          place = is.place;
          first = is.first;
          due = is.due;
          come = is.come;
          low = omega arith;
          least = λ j other small at. dite (ℕ_discrete j i)
              (λ same. (let e = same_place j other same at in dite (ℕ_discrete best.due_ms head.due_ms) (λ equal. inr (equal ∙ sym e, omega arith)) (λ ne. inl (omega arith))))
              (λ ne. is.least j other (omega arith) at);
        }

    pub takes_sooner : (best : Option Head) → BestOf i best → BestOf n (sooner_of now best head)
    takes_sooner None before = elim (nat_le head.due_ms now) as (λ b. nat_le head.due_ms now ≡ b → BestOf n (if b then Some head else None)) [
      | true ↦ λ le. takes (leb-true head.due_ms now le) (λ j other low is. (let come = leb-true head.due_ms now le in let later = before j other low is in omega arith))
      | false ↦ λ gt j other low is. dite (ℕ_discrete j i) (λ same. (let e = same_place j other same is in let past = leb-false head.due_ms now gt in omega arith)) (λ ne. before j other (omega arith) is)
    ] refl
    takes_sooner (Some best) is = elim (nat_lt head.due_ms best.due_ms) as (λ b. nat_lt head.due_ms best.due_ms ≡ b → BestOf n (if b then Some head else Some best)) [
      | true ↦ λ lt. (let come = is.come in let sooner = ltb-true head.due_ms best.due_ms lt in takes (omega arith) (λ j other low at. elim (is.least j other low at) [ inl h ↦ omega arith | inr h ↦ (let e = h.0 in omega arith) ]))
      | false ↦ λ ge. (let late = ltb-false head.due_ms best.due_ms ge in passes best is (omega arith))
    ] refl

  pub none_due : (n : ℕ) → length qs ≤ n → BestOf n None → NoneIsDue pending qs now
  none_due n all best j place is = let low = first_low qs j place is in best j place (omega arith) is

  pub is_due : (n : ℕ) (best : Head) → length qs ≤ n → IsBest n best → IsDue pending qs now best.queue
  is_due n best all is = record {
    place = is.place;
    first = is.first;
    due = (let e = is.due in let c = is.come in omega arith);
    least = λ j other at. (let low = first_low qs j other at in let e = is.due in elim (is.least j other (omega arith) at) [ inl h ↦ inl (omega arith) | inr h ↦ inr (e ∙ h.0, h.1) ]);
  }
