-- How long it is until the first segment of a queue is due, on the way through all queues.
use Rattle.std.proofs.Common.{◌≡◌, ◌<◌, ◌≤◌, ◌+◌, ◌-◌, ℕ, List, length, None, Some, inl, inr, refl, sym, ap, ◌∙◌, arith}
use Rattle.std.specs.Prelude.{◌⊎◌, min}
use mathlib.Core.Logic.{dite}
use native.Mathlib.Decide.{ℕ_discrete}
use Rattle.sms_worker.specs.declared.state.open.SegmentPlace.{SegmentPlace}
use Rattle.sms_worker.specs.declared.state.queue.Queue.{Queue}
use Rattle.sms_worker.specs.Queues.{due_at, first_in}
use Rattle.sms_worker.specs.PendingState.{PendingState}
use Rattle.sms_worker.specs.Waits.{IsDueIn, never}
use Rattle.sms_worker.proofs.Earliest.{first_low}

module _ (pending : List PendingState) (qs : List Queue) (now : ℕ) where
  -- so it is of the first n queues
  pub record IsDueInOf (n ms : ℕ) : Type 0 where
    pub least : (j : ℕ) (place : SegmentPlace) → j < n → first_in qs j ≡ Some place → ms ≤ due_at pending place - now
    pub own : (ms ≡ never) ⊎ ((j : ℕ) × (place : SegmentPlace) × (first_in qs j ≡ Some place) × (ms ≡ due_at pending place - now))

  pub none_yet : IsDueInOf 0 never
  none_yet = record { least = λ j place low. absurd (omega (arith, low)); own = inl refl }

  pub passes_empty : (i n ms : ℕ) → n ≡ i + 1 → first_in qs i ≡ None → IsDueInOf i ms → IsDueInOf n ms
  passes_empty i n ms next empty is = record {
    least = λ j place low at. dite (ℕ_discrete j i) (λ same. (let e : None ≡ Some place = sym empty ∙ ap (first_in qs) (sym same) ∙ at in absurd (cc))) (λ ne. is.least j place (omega arith) at);
    own = is.own;
  }

  pub takes_least : (i n ms due : ℕ) (place : SegmentPlace) → n ≡ i + 1 → first_in qs i ≡ Some place → due_at pending place ≡ due → IsDueInOf i ms → IsDueInOf n (min ms (due - now))
  takes_least i n ms due place next first is_due is = record {
    least = λ j other low at. dite (ℕ_discrete j i)
        (λ same. (let e : Some other ≡ Some place = sym at ∙ ap (first_in qs) same ∙ first in let p : other ≡ place = cc in let d = ap (due_at pending) p ∙ is_due in omega arith))
        (λ ne. (let before = is.least j other (omega arith) at in omega arith));
    own = dite (ℕ_discrete (min ms (due - now)) ms)
        (λ same. (let e : min ms (due - now) ≡ ms = same in rw e is.own))
        (λ ne. inr (i, place, first, omega (arith, is_due, ne)));
  }

  pub is_due_in : (n ms : ℕ) → length qs ≤ n → IsDueInOf n ms → IsDueIn pending qs now ms
  is_due_in n ms all is = record {
    least = λ j place at. (let low = first_low qs j place at in is.least j place (omega arith) at);
    own = is.own;
  }
