-- What each step keeps, every run keeps; and what a step does to the hold set.
use mathlib.Core.Logic.{◌⊎◌}
use Rattle.std.proofs.Common.{◌≡◌, ℕ, ◌<◌, ◌≤◌, List, [], ◌∷◌, refl, sym, ap, subst, inl, inr}
use Rattle.sms_core.specs.declared.event.Event.{Event}
use Rattle.sms_core.specs.declared.event.Event.TheVariants.{TopUp, Reserve, Claim, Post, Respond, Settle, Expire, Discard, Release}
use Rattle.sms_core.specs.declared.event.Step.{Step}
use Rattle.sms_core.specs.declared.event.Step.TheVariants.{Done, Ignored}
use Rattle.sms_core.specs.declared.mark.Mark.{Mark}
use Rattle.sms_core.specs.declared.mark.Mark.TheVariants.{Empty, Open, Replied}
use Rattle.sms_core.specs.Holds.{Claims, Releases}
use Rattle.sms_core.specs.State.{State, mark_of, times_held}
use Rattle.sms_core.specs.Steps.{Steps, Settles, Expires}
use Rattle.sms_core.specs.Histories.{Moment, IsHistory}
use Rattle.sms_core.proofs.Done.{claim_done, release_done}

pub first_step : (m : Moment) (ms : List Moment) (old new : State) → IsHistory old (m ∷ ms) new → Steps old m.event m.answer m.after
first_step m ms old new (from, steps, later) = subst (λ (w : State). Steps w m.event m.answer m.after) from steps

pub later_steps : (m : Moment) (ms : List Moment) (old new : State) → IsHistory old (m ∷ ms) new → IsHistory m.after ms new
later_steps m ms old new (from, steps, later) = later

pub kept_by_runs : (P : State → Type 0) → ((event : Event) (answer : Step) (old new : State) → Steps old event answer new → P old → P new)
    → (ms : List Moment) (old new : State) → IsHistory old ms new → P old → P new
kept_by_runs P step [] old new h p = subst P (sym h) p
kept_by_runs P step (m ∷ ms) old new h p = kept_by_runs P step ms m.after new (later_steps m ms old new h) (step m.event m.answer old m.after (first_step m ms old new h) p)

-- a claim of a free slot of the window
pub record Takes (old : State) (holds : List (ℕ × ℕ)) : Type 0 where
  pub worker : ℕ
  pub slot : ℕ
  pub inside : slot < old.limit
  pub claims : Claims old.holds worker slot holds

-- a release by the worker that has the slot
pub record Frees (event : Event) (answer : Step) (old : State) (holds : List (ℕ × ℕ)) : Type 0 where
  pub worker : ℕ
  pub slot : ℕ
  pub is : event ≡ Release worker slot
  pub done : answer ≡ Done
  pub held : 1 ≤ times_held worker slot old.holds
  pub releases : Releases old.holds worker slot holds

abbrev pub Turns : Event → Step → State → List (ℕ × ℕ) → Type 0
Turns event answer old holds = (holds ≡ old.holds) ⊎ (Takes old holds ⊎ Frees event answer old holds)

settles_holds : (m : Mark) (event : Event) (answer : Step) (old new : State) (slot : ℕ) → Settles old slot m new → Turns event answer old new.holds
settles_holds Empty event answer old new slot s = absurd s
settles_holds (Open r n) event answer old new slot s = absurd s
settles_holds (Replied r n k b) event answer old new slot s = inl (ap (λ (w : State). w.holds) s)

expires_holds : (m : Mark) (event : Event) (answer : Step) (old new : State) (slot : ℕ) → Expires old slot m new → Turns event answer old new.holds
expires_holds Empty event answer old new slot s = absurd s
expires_holds (Open r n) event answer old new slot s = inl (ap (λ (w : State). w.holds) s)
expires_holds (Replied r n k b) event answer old new slot s = absurd s

-- each step leaves the hold set, takes a free slot, or frees one
pub turn_of_holds : (event : Event) (answer : Step) (old new : State) → Steps old event answer new → Turns event answer old new.holds
turn_of_holds event (Ignored cause) old new s = inl (ap (λ (w : State). w.holds) s.1)
turn_of_holds (TopUp account amount) Done old new s = inl (ap (λ (w : State). w.holds) s.1)
turn_of_holds (Reserve request account cost) Done old new s = inl (ap (λ (w : State). w.holds) s.1)
turn_of_holds (Claim worker slot) Done old new s =
    let done = claim_done old new worker slot s in
    inr (inl record { worker = worker; slot = slot; inside = done.inside; claims = done.claims })
turn_of_holds (Post worker slot request) Done old new s = inl (ap (λ (w : State). w.holds) s.1)
turn_of_holds (Respond number status nack) Done old new s = inl (ap (λ (w : State). w.holds) s.1.after)
turn_of_holds (Settle worker slot) Done old new s = settles_holds (mark_of old slot) (Settle worker slot) Done old new slot s.1
turn_of_holds (Expire worker slot) Done old new s = expires_holds (mark_of old slot) (Expire worker slot) Done old new slot s.1
turn_of_holds (Discard request) Done old new s = inl (ap (λ (w : State). w.holds) s.1)
turn_of_holds (Release worker slot) Done old new s =
    let done = release_done old new worker slot s in
    inr (inr record { worker = worker; slot = slot; is = refl; done = refl; held = done.held; releases = done.releases })
