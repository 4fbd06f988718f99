-- The numbers that Posts give: each step draws what it gives.
use Rattle.std.proofs.Common.{◌≡◌, ℕ, ◌+◌, List, [], ◌∷◌, refl, ap, ◌∙◌, arith}
use Rattle.std.proofs.lemmas.List.{get_or-set_same}
use Rattle.sms_core.specs.declared.event.Event.{Event}
use Rattle.sms_core.specs.declared.event.Event.TheVariants.{TopUp, Reserve, Claim, Post, Respond, Settle, Expire, Discard, Release}
use Rattle.sms_core.specs.declared.event.Cause.{Cause}
use Rattle.sms_core.specs.declared.event.Step.{Step}
use Rattle.sms_core.specs.declared.event.Step.TheVariants.{Done, Ignored}
use Rattle.sms_core.specs.declared.mark.Mark.{Mark}
use Rattle.sms_core.specs.declared.mark.Mark.TheVariants.{Empty, Open, Replied}
use Rattle.sms_core.specs.CoreLaws.{NumbersGivenOnce}
use Rattle.sms_core.specs.Numbers.{times, once_below}
use Rattle.sms_core.specs.State.{State, new_world, mark_of}
use Rattle.sms_core.specs.Steps.{Steps, Settles, Expires}
use Rattle.sms_core.specs.Histories.{Moment, IsHistory, number_in, given_by, numbers_given}
use Rattle.sms_core.proofs.Numbers.{times_append, times_next}
use Rattle.sms_core.proofs.Runs.{first_step, later_steps}
use Rattle.sms_core.proofs.Sound.{IsSound, held_inside, sound_start, sound_step}
use Rattle.sms_core.proofs.Done.{claim_done, post_done, release_done}

-- what a step gives is drawn from the next number
abbrev IsDrawn : ℕ → State → State → List ℕ → Type 0
IsDrawn n old new given = times n given + once_below n old.next ≡ once_below n new.next

gives_none : (n : ℕ) (old new : State) (given : List ℕ) → given ≡ [] → new.next ≡ old.next → IsDrawn n old new given
gives_none n old new given none same =
    let t : times n given ≡ 0 = ap (times n) none in
    let o : once_below n new.next ≡ once_below n old.next = ap (once_below n) same in
    omega arith

ignored_gives : (event : Event) (cause : Cause) (after : State) → given_by event (Ignored cause) after ≡ []
ignored_gives (TopUp other amount) cause after = refl
ignored_gives (Reserve request other cost) cause after = refl
ignored_gives (Claim worker slot) cause after = refl
ignored_gives (Post worker slot request) cause after = refl
ignored_gives (Respond number status nack) cause after = refl
ignored_gives (Settle worker slot) cause after = refl
ignored_gives (Expire worker slot) cause after = refl
ignored_gives (Discard request) cause after = refl
ignored_gives (Release worker slot) cause after = refl

pub settle_next : (m : Mark) (old new : State) (slot : ℕ) → Settles old slot m new → new.next ≡ old.next
settle_next Empty old new slot s = absurd s
settle_next (Open r n) old new slot s = absurd s
settle_next (Replied r n k b) old new slot s = ap (λ (w : State). w.next) s

pub expire_next : (m : Mark) (old new : State) (slot : ℕ) → Expires old slot m new → new.next ≡ old.next
expire_next Empty old new slot s = absurd s
expire_next (Open r n) old new slot s = ap (λ (w : State). w.next) s
expire_next (Replied r n k b) old new slot s = absurd s

drawn_step : (n : ℕ) (event : Event) (answer : Step) (old new : State) → Steps old event answer new → IsSound old → IsDrawn n old new (given_by event answer new)
drawn_step n event (Ignored cause) old new s i = gives_none n old new _ (ignored_gives event cause new) (ap (λ (w : State). w.next) s.1)
drawn_step n (TopUp account amount) Done old new s i = gives_none n old new [] refl (ap (λ (w : State). w.next) s.1)
drawn_step n (Reserve request account cost) Done old new s i = gives_none n old new [] refl (ap (λ (w : State). w.next) s.1)
drawn_step n (Claim worker slot) Done old new s i = gives_none n old new [] refl (ap (λ (w : State). w.next) (claim_done old new worker slot s).after)
drawn_step n (Post worker slot request) Done old new s i =
    let inside = held_inside old worker slot i (post_done old new worker slot request s).held in
    let mark : mark_of new slot ≡ Open request old.next = ap (λ (w : State). mark_of w slot) s.1 ∙ get_or-set_same old.marks slot (Open request old.next) Empty inside in
    let given : times n (number_in (mark_of new slot)) ≡ times n (old.next ∷ []) = ap (λ (m : Mark). times n (number_in m)) mark in
    let next : once_below n new.next ≡ once_below n (old.next + 1) = ap (λ (w : State). once_below n w.next) s.1 in
    let t = times_next n old.next in
    omega arith
drawn_step n (Respond number status nack) Done old new s i = gives_none n old new [] refl (ap (λ (w : State). w.next) s.1.after)
drawn_step n (Settle worker slot) Done old new s i = gives_none n old new [] refl (settle_next (mark_of old slot) old new slot s.1)
drawn_step n (Expire worker slot) Done old new s i = gives_none n old new [] refl (expire_next (mark_of old slot) old new slot s.1)
drawn_step n (Discard request) Done old new s i = gives_none n old new [] refl (ap (λ (w : State). w.next) s.1)
drawn_step n (Release worker slot) Done old new s i = gives_none n old new [] refl (ap (λ (w : State). w.next) (release_done old new worker slot s).after)

drawn_run : (n : ℕ) (ms : List Moment) (old new : State) → IsHistory old ms new → IsSound old → IsDrawn n old new (numbers_given ms)
drawn_run n [] old new h i = gives_none n old new [] refl (ap (λ (w : State). w.next) h)
drawn_run n (m ∷ ms) old new h i =
    let s = first_step m ms old new h in
    let one = drawn_step n m.event m.answer old m.after s i in
    let rest = drawn_run n ms m.after new (later_steps m ms old new h) (sound_step m.event m.answer old m.after s i) in
    let both = times_append n (given_by m.event m.answer m.after) (numbers_given ms) in
    omega arith

pub numbers_given_once : NumbersGivenOnce
numbers_given_once ms w h n = drawn_run n ms (new_world h.accounts h.limit h.attempts) w h.history (sound_start h.accounts h.limit h.attempts h.limits)
