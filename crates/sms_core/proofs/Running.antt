-- Runs, one event at a time.
use Rattle.std.proofs.Common.{List, [], ◌∷◌, ◌++◌, refl, ap, ◌∙◌}
use Rattle.std.proofs.lemmas.List.{map-append}
use Rattle.sms_core.specs.declared.event.Event.{Event}
use Rattle.sms_core.specs.declared.event.Step.{Step}
use Rattle.sms_core.specs.State.{State}
use Rattle.sms_core.specs.Steps.{Steps}
use Rattle.sms_core.specs.Histories.{Moment, IsHistory, Runs}

history_more : (old : State) (ms : List Moment) (w : State) (event : Event) (answer : Step) (new : State) → IsHistory old ms w → Steps w event answer new →
    IsHistory old (ms ++ (record { before = w; event = event; answer = answer; after = new }) ∷ []) new
history_more old [] w event answer new is step = (is, step, refl)
history_more old (m ∷ ms) w event answer new (from, steps, later) step = (from, steps, history_more m.after ms w event answer new later step)

pub runs_more : (old : State) (events : List Event) (answers : List Step) (w : State) (event : Event) (answer : Step) (new : State) → Runs old events answers w → Steps w event answer new →
    Runs old (events ++ event ∷ []) (answers ++ answer ∷ []) new
runs_more old events answers w event answer new runs step =
    let m : Moment = record { before = w; event = event; answer = answer; after = new } in
    record {
      moments = runs.moments ++ m ∷ [];
      history = history_more old runs.moments w event answer new runs.history step;
      asked = map-append (λ (x : Moment). x.event) runs.moments (m ∷ []) ∙ ap (λ (es : List Event). es ++ event ∷ []) runs.asked;
      told = map-append (λ (x : Moment). x.answer) runs.moments (m ∷ []) ∙ ap (λ (steps : List Step). steps ++ answer ∷ []) runs.told;
    }
