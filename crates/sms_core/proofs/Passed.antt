-- What it tells of the world and the event that none of the event's checks applies.
use Rattle.std.proofs.Common.{◌≡◌, ℕ, ◌≤◌, ◌==◌, Bool, true, false, not, ◌||◌, List, [], ◌∷◌, Option, Some, None, refl, sym, ◌∙◌, arith}
use Rattle.std.specs.Prelude.{is_some}
use Rattle.std.proofs.lemmas.Bool.{true≢false}
use native.Mathlib.Decide.{ℕ_discrete}
use mathlib.Core.Logic.{dite}
use Rattle.std.proofs.lemmas.Bool.{eq-eqb}
use Rattle.sms_core.specs.declared.event.Cause.{Cause}
use Rattle.sms_core.specs.declared.mark.Mark.{Mark}
use Rattle.sms_core.specs.declared.mark.Mark.TheVariants.{Empty, Open, Replied}
use Rattle.sms_core.specs.declared.request.Phase.{Phase}
use Rattle.sms_core.specs.declared.request.Phase.TheVariants.{Ready, Charged, Refused, Unanswered, Unsent, Open as Waiting}
use Rattle.sms_core.specs.declared.request.RequestState.{RequestState}
use Rattle.sms_core.specs.Marks.{is_empty}
use Rattle.sms_core.specs.Steps.{first_cause, is_ready_phase}

-- none of the checks applies
abbrev pub AllPassed : List (Bool × Cause) → Type 0
AllPassed [] = Unit {0}
AllPassed (c ∷ cs) = (c.0 ≡ false) × AllPassed cs

pub all_passed : (cs : List (Bool × Cause)) → first_cause cs ≡ None → AllPassed cs
all_passed [] e = tt
all_passed ((true, cause) ∷ cs) e = absurd (cc)
all_passed ((false, cause) ∷ cs) e = (refl, all_passed cs e)

pub both_false : (a b : Bool) → (a || b) ≡ false → (a ≡ false) × (b ≡ false)
both_false true b e = absurd (true≢false e)
both_false false b e = (refl, e)

pub some_held : (held : ℕ) → (held == 0) ≡ false → 1 ≤ held
some_held held e = dite (ℕ_discrete held 0) (λ z. absurd (true≢false (sym (eq-eqb held 0 z) ∙ e))) (λ ne. omega arith)

pub empty_mark : (m : Mark) → not (is_empty m) ≡ false → m ≡ Empty
empty_mark Empty e = refl
empty_mark (Open r n) e = absurd (true≢false e)
empty_mark (Replied r n s k) e = absurd (true≢false e)

pub ready_phase : (p : Phase) → not (is_ready_phase p) ≡ false → p ≡ Ready
ready_phase Ready e = refl
ready_phase Waiting e = absurd (true≢false e)
ready_phase Charged e = absurd (true≢false e)
ready_phase Refused e = absurd (true≢false e)
ready_phase Unanswered e = absurd (true≢false e)
ready_phase Unsent e = absurd (true≢false e)

-- the request is unknown
pub no_request : (o : Option RequestState) → is_some o ≡ false → o ≡ None
no_request None e = refl
no_request (Some s) e = absurd (true≢false e)
