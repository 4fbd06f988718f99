-- A step has one outcome.
use Rattle.std.proofs.Common.{◌≡◌, ◌≢◌, ℕ, zero, suc, ◌≤◌, List, [], ◌∷◌, set, get_or, Option, Some, None, refl, sym, ap, ◌∙◌, subst, arith}
use mathlib.Core.Logic.{dite}
use native.Mathlib.Decide.{ℕ_discrete}
use Rattle.std.proofs.lemmas.Option.{get_or_from_slice_get}
use Rattle.sms_core.specs.declared.event.Event.{Event}
use Rattle.sms_core.specs.declared.event.Event.TheVariants.{TopUp, Reserve, Claim, Post, Respond, Settle, Expire, Discard, Release}
use Rattle.sms_core.specs.declared.event.Step.TheVariants.{Done, Ignored}
use Rattle.sms_core.specs.declared.mark.Mark.{Mark}
use Rattle.sms_core.specs.declared.mark.Mark.TheVariants.{Empty, Open, Replied}
use Rattle.sms_core.specs.declared.request.Phase.{Phase}
use Rattle.sms_core.specs.declared.request.Phase.TheVariants.{Ready, Charged, Refused, Unanswered, Unsent, Open as Waiting}
use Rattle.sms_core.specs.declared.request.RequestState.{RequestState}
use Rattle.sms_core.specs.CoreLaws.{OneSlotWaits, SameWorld, StepIsDetermined}
use Rattle.sms_core.specs.Histories.{Moment, FromStart}
use Rattle.sms_core.specs.Holds.{Claims, Releases}
use Rattle.sms_core.specs.State.{State, request_of, mark_of}
use Rattle.sms_core.specs.Steps.{Effect, Settles, Expires}
use Rattle.sms_core.proofs.Charging.{backed, one_post}
use Rattle.sms_core.proofs.Sound.{sound}
use Rattle.sms_core.proofs.Spoken.{speaks, spoken, this_name, is_waiting, waiting}

spoken_one : (id : ℕ) (ms : List Mark) (slot : ℕ) → speaks id (get_or ms slot Empty) ≡ 1 → 1 ≤ spoken id ms
spoken_one id [] slot e = absurd (omega arith)
spoken_one id (m ∷ ms) zero e = omega arith
spoken_one id (m ∷ ms) (suc slot) e = let rest = spoken_one id ms slot e in omega arith

spoken_two : (id : ℕ) (ms : List Mark) (slot other : ℕ) → slot ≢ other → speaks id (get_or ms slot Empty) ≡ 1 → speaks id (get_or ms other Empty) ≡ 1 → 2 ≤ spoken id ms
spoken_two id [] slot other ne a b = absurd (omega arith)
spoken_two id (m ∷ ms) zero zero ne a b = absurd (ne refl)
spoken_two id (m ∷ ms) zero (suc other) ne a b = let rest = spoken_one id ms other b in omega arith
spoken_two id (m ∷ ms) (suc slot) zero ne a b = let rest = spoken_one id ms slot a in omega arith
spoken_two id (m ∷ ms) (suc slot) (suc other) ne a b = let rest = spoken_two id ms slot other (λ e. ne (ap suc e)) a b in omega arith

phase_most : (p : Phase) → is_waiting p ≤ 1
phase_most Ready = omega arith
phase_most Waiting = omega arith
phase_most Charged = omega arith
phase_most Refused = omega arith
phase_most Unanswered = omega arith
phase_most Unsent = omega arith

waiting_most : (o : Option RequestState) → waiting o ≤ 1
waiting_most None = omega arith
waiting_most (Some s) = phase_most s.phase

pub one_slot_waits : OneSlotWaits
one_slot_waits ms w slot other number request another h a b =
    let back = backed ms w h in
    let p = back.posts slot request number a in
    let q = back.posts other another number b in
    let same : request ≡ another = one_post ms w p.0 q.0 request another number h p.1 q.1 in
    let here : speaks request (mark_of w slot) ≡ 1 = ap (speaks request) a ∙ this_name request request refl in
    let there : speaks request (mark_of w other) ≡ 1 = ap (speaks request) b ∙ this_name request another (sym same) in
    dite (ℕ_discrete slot other) (λ is. is) (λ ne.
    let two = spoken_two request w.marks slot other ne here there in
    let one = (sound ms w h).waits request in
    let most = waiting_most (request_of w request) in
    absurd (omega arith))

same_world : (with one other : State) → one ≡ with → other ≡ with → SameWorld one other
same_world with one other a b = subst (SameWorld one) (a ∙ sym b) (λ f. refl, refl)

same_claims : (old one other : State) (worker slot : ℕ) (marks : List Mark) → Claims old.holds worker slot one.holds → Claims old.holds worker slot other.holds
    → one ≡ record old { holds = one.holds; marks = marks } → other ≡ record old { holds = other.holds; marks = marks } → SameWorld one other
same_claims old one other worker slot marks c d a b =
    (λ f. let x = c.1 f in let y = d.1 f in omega arith, b ∙ sym (ap (λ (w : State). record w { holds = other.holds }) a))

same_releases : (old one other : State) (worker slot : ℕ) → Releases old.holds worker slot one.holds → Releases old.holds worker slot other.holds
    → one ≡ record old { holds = one.holds } → other ≡ record old { holds = other.holds } → SameWorld one other
same_releases old one other worker slot c d a b =
    (λ f. let x = c f in let y = d f in omega arith, b ∙ sym (ap (λ (w : State). record w { holds = other.holds }) a))

same_settles : (m : Mark) (old one other : State) (slot : ℕ) → Settles old slot m one → Settles old slot m other → SameWorld one other
same_settles Empty old one other slot a b = absurd a
same_settles (Open r n) old one other slot a b = absurd a
same_settles (Replied r n status nack) old one other slot a b = same_world _ one other a b

same_expires : (m : Mark) (old one other : State) (slot : ℕ) → Expires old slot m one → Expires old slot m other → SameWorld one other
same_expires Empty old one other slot a b = absurd a
same_expires (Open r n) old one other slot a b = same_world _ one other a b
same_expires (Replied r n status nack) old one other slot a b = absurd a

same_effect : (ms : List Moment) (old one other : State) (event : Event) → FromStart ms old → Effect old event one → Effect old event other → SameWorld one other
same_effect ms old one other (TopUp account amount) h a b = same_world _ one other a b
same_effect ms old one other (Reserve request account cost) h a b = same_world _ one other a b
same_effect ms old one other (Claim worker slot) h a b = same_claims old one other worker slot (set old.marks slot Empty) a.0 b.0 a.1 b.1
same_effect ms old one other (Post worker slot request) h a b = same_world _ one other a b
same_effect ms old one other (Respond number status nack) h a b =
    let here : mark_of old a.slot ≡ Open a.request number = get_or_from_slice_get old.marks a.slot (Open a.request number) Empty a.waits in
    let there : mark_of old b.slot ≡ Open b.request number = get_or_from_slice_get old.marks b.slot (Open b.request number) Empty b.waits in
    let slot : a.slot ≡ b.slot = one_slot_waits ms old a.slot b.slot number a.request b.request h here there in
    let both : Open a.request number ≡ Open b.request number = sym here ∙ ap (mark_of old) slot ∙ there in
    let request : a.request ≡ b.request = cc in
    same_world (record old { marks = set old.marks b.slot (Replied b.request number status nack) }) one other
    (a.after ∙ (λ i. record old { marks = set old.marks (slot i) (Replied (request i) number status nack) })) b.after
same_effect ms old one other (Settle worker slot) h a b = same_settles (mark_of old slot) old one other slot a b
same_effect ms old one other (Expire worker slot) h a b = same_expires (mark_of old slot) old one other slot a b
same_effect ms old one other (Discard request) h a b = same_world _ one other a b
same_effect ms old one other (Release worker slot) h a b = same_releases old one other worker slot a.0 b.0 a.1 b.1

pub step_is_determined : StepIsDetermined
step_is_determined ms old one other event (Ignored cause) (Ignored another) h s t =
    let both : Some cause ≡ Some another = sym s.0 ∙ t.0 in
    (ap Ignored (cc), same_world old one other s.1 t.1)
step_is_determined ms old one other event (Ignored cause) Done h s t = let both : Some cause ≡ None = sym s.0 ∙ t.0 in absurd (cc)
step_is_determined ms old one other event Done (Ignored cause) h s t = let both : Some cause ≡ None = sym t.0 ∙ s.0 in absurd (cc)
step_is_determined ms old one other event Done Done h s t = (refl, same_effect ms old one other event h s.1 t.1)
