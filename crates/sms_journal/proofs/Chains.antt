-- Events that are all done, one after another.
use Rattle.std.proofs.Common.{◌≡◌, List, [], ◌∷◌, ◌++◌, map, length, refl, ap, subst}
use Rattle.std.specs.Prelude.{replicate}
use Rattle.sms_core.specs.declared.event.Event.{Event}
use Rattle.sms_core.specs.declared.event.Step.{Step}
use Rattle.sms_core.specs.declared.event.Step.TheVariants.{Done}
use Rattle.sms_core.specs.Histories.{Moment, IsHistory, Runs}
use Rattle.sms_core.specs.State.{State}
use Rattle.sms_core.specs.Steps.{Steps}

abbrev pub AllDone : State → List Event → State → Type 0
AllDone old [] new = new ≡ old
AllDone old (e ∷ es) new = (mid : State) × Steps old e Done mid × AllDone mid es new

pub done_append : (old mid new : State) (es fs : List Event) → AllDone old es mid → AllDone mid fs new → AllDone old (es ++ fs) new
done_append old mid new [] fs first later = subst (λ (w : State). AllDone w fs new) first later
done_append old mid new (e ∷ es) fs (next, steps, rest) later = (next, steps, done_append next mid new es fs rest later)

moments_of : (old : State) (es : List Event) (new : State) → AllDone old es new → List Moment
moments_of old [] new d = []
moments_of old (e ∷ es) new (mid, steps, rest) = record { before = old; event = e; answer = Done; after = mid } ∷ moments_of mid es new rest

history_of : (old : State) (es : List Event) (new : State) (d : AllDone old es new) → IsHistory old (moments_of old es new d) new
unfolding moments_of
history_of old [] new d = d
history_of old (e ∷ es) new (mid, steps, rest) = (refl, steps, history_of mid es new rest)

asked_of : (old : State) (es : List Event) (new : State) (d : AllDone old es new) → map (λ m. m.event) (moments_of old es new d) ≡ es
unfolding moments_of
asked_of old [] new d = refl
asked_of old (e ∷ es) new (mid, steps, rest) = ap (λ (l : List Event). e ∷ l) (asked_of mid es new rest)

told_of : (old : State) (es : List Event) (new : State) (d : AllDone old es new) → map (λ m. m.answer) (moments_of old es new d) ≡ replicate (length es) Done
unfolding moments_of
told_of old [] new d = refl
told_of old (e ∷ es) new (mid, steps, rest) = ap (λ (l : List Step). Done ∷ l) (told_of mid es new rest)

pub runs_of : (old : State) (es : List Event) (new : State) → AllDone old es new → Runs old es (replicate (length es) Done) new
runs_of old es new d = record { moments = moments_of old es new d; history = history_of old es new d; asked = asked_of old es new d; told = told_of old es new d }
