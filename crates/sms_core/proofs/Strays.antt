-- An answer that no slot waits for.
use Rattle.std.proofs.Common.{◌≡◌, ℕ, zero, suc, Bool, false, List, [], ◌∷◌, get_or, Some, refl, sym, ap, ◌∙◌, ne_eqb}
use mathlib.Core.Logic.{dite}
use native.Mathlib.Decide.{ℕ_discrete}
use Rattle.sms_core.specs.declared.event.Cause.TheVariants.{UnknownNumber}
use Rattle.sms_core.specs.declared.event.Event.TheVariants.{Respond}
use Rattle.sms_core.specs.declared.event.Step.{Step}
use Rattle.sms_core.specs.declared.event.Step.TheVariants.{Done, Ignored}
use Rattle.sms_core.specs.declared.mark.Mark.{Mark}
use Rattle.sms_core.specs.declared.mark.Mark.TheVariants.{Empty, Open, Replied}
use Rattle.sms_core.specs.CoreLaws.{UnknownIsIgnored}
use Rattle.sms_core.specs.Marks.{waits_for}
use Rattle.sms_core.specs.State.{State}
use Rattle.sms_core.specs.Steps.{Steps, cause_of, some_waits_for}

not_waiting : (number : ℕ) (m : Mark) → ((request : ℕ) → m ≡ Open request number → ⊥) → waits_for number m ≡ false
not_waiting number Empty never = refl
not_waiting number (Open request n) never = dite (ℕ_discrete n number) (λ is. absurd (never request (ap (Open request) is))) (λ ne. ne_eqb n number ne)
not_waiting number (Replied request n status nack) never = refl

none_waits : (number : ℕ) (ms : List Mark) → ((slot request : ℕ) → get_or ms slot Empty ≡ Open request number → ⊥) → some_waits_for number ms ≡ false
none_waits number [] never = refl
none_waits number (m ∷ ms) never =
    let head : waits_for number m ≡ false = not_waiting number m (never zero) in
    rw head (none_waits number ms (λ slot. never (suc slot)))

ignored : (old new : State) (number status : ℕ) (nack : Bool) (answer : Step) → cause_of old (Respond number status nack) ≡ Some UnknownNumber
    → Steps old (Respond number status nack) answer new → (answer ≡ Ignored UnknownNumber) × (new ≡ old)
ignored old new number status nack Done why s = absurd (cc)
ignored old new number status nack (Ignored cause) why s = let e : Some cause ≡ Some UnknownNumber = sym s.0 ∙ why in (ap Ignored (cc), s.1)

pub unknown_is_ignored : UnknownIsIgnored
unknown_is_ignored old new number status nack answer s never =
    let none : some_waits_for number old.marks ≡ false = none_waits number old.marks never in
    ignored old new number status nack answer (rw none refl) s
