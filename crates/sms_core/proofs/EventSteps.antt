-- Each event has an answer in each world.
use Rattle.std.proofs.Common.{◌≡◌, ℕ, suc, ◌+◌, ◌≤◌, ◌<◌, ◌==◌, ◌&&◌, ◌∷◌, ◌++◌, nat_lt, nat_le, not, true, false, List, [], set, take, drop, get_or, length, slice_get, Option, Some, None, refl, sym, ap, ◌∙◌, arith, true≢false, ⊎_elim}
use Rattle.std.proofs.lemmas.Bool.{eqb-true, ltb-false, not-false, false≢true, or_cases, and_parts, cases_Bool}
use Rattle.sms_core.specs.declared.event.Event.{Event}
use Rattle.sms_core.specs.declared.event.Event.TheVariants.{TopUp, Reserve, Claim, Post, Respond, Settle, Expire, Discard, Release}
use Rattle.sms_core.specs.declared.event.Cause.{Cause}
use Rattle.sms_core.specs.declared.event.Step.{Step}
use Rattle.sms_core.specs.declared.event.Step.TheVariants.{Done, Ignored}
use Rattle.sms_core.specs.declared.mark.Mark.{Mark}
use Rattle.sms_core.specs.declared.mark.Mark.TheVariants.{Empty, Open, Replied}
use Rattle.sms_core.specs.Holds.{weigh, holders_of}
use Rattle.sms_core.specs.Marks.{is_empty, is_open, waits_for}
use Rattle.sms_core.specs.State.{State, mark_of, times_held, is_pair}
use Rattle.sms_core.specs.Steps.{checks, is_held, cause_of, some_waits_for, Effect, Settles, Expires, Steps}
use Rattle.sms_core.specs.StepLaws.{EventSteps}
use Rattle.sms_core.proofs.Passed.{AllPassed, all_passed, both_false, some_held}
use Rattle.sms_core.proofs.Pairs.{weigh-append, weigh-out}

-- the slot that waits for the number
record Waits (number : ℕ) (ms : List Mark) : Type 0 where
  slot : ℕ
  request : ℕ
  there : slice_get ms slot ≡ Some (Open request number)

waits_at_head : (number : ℕ) (m : Mark) (ms : List Mark) → waits_for number m ≡ true → Waits number (m ∷ ms)
waits_at_head number Empty ms e = absurd (true≢false (sym e))
waits_at_head number (Open request n) ms e = record { slot = 0; request = request; there = ap (λ (k : ℕ). Some (Open request k)) (eqb-true n number e) }
waits_at_head number (Replied request n status nack) ms e = absurd (true≢false (sym e))

waits_somewhere : (number : ℕ) (ms : List Mark) → some_waits_for number ms ≡ true → Waits number ms
waits_somewhere number [] e = absurd (false≢true e)
waits_somewhere number (m ∷ ms) e = ⊎_elim
    (λ (head : waits_for number m ≡ true). waits_at_head number m ms head)
    (λ (behind : some_waits_for number ms ≡ true). let rest = waits_somewhere number ms behind in record { slot = suc rest.slot; request = rest.request; there = rest.there })
    (or_cases (waits_for number m) (some_waits_for number ms) e)

-- a pair that is held stands at some place
record IsAt (worker slot : ℕ) (ps : List (ℕ × ℕ)) : Type 0 where
  place : ℕ
  within : place < length ps
  there : get_or ps place (worker, slot) ≡ (worker, slot)

pair_at : (worker slot : ℕ) (ps : List (ℕ × ℕ)) → 1 ≤ times_held worker slot ps → IsAt worker slot ps
pair_at worker slot [] held = absurd (omega arith)
pair_at worker slot (p ∷ ps) held = ⊎_elim
    (λ (here : ((p.0 == worker) && (p.1 == slot)) ≡ true).
    let both = and_parts (p.0 == worker) (p.1 == slot) here in
    let h : p.0 ≡ worker = eqb-true p.0 worker both.0 in
    let k : p.1 ≡ slot = eqb-true p.1 slot both.1 in
    record { place = 0; within = omega arith; there = λ i. (h i, k i) })
    (λ (other : ((p.0 == worker) && (p.1 == slot)) ≡ false).
    let none : is_pair worker slot p ≡ 0 = rw other refl in
    let rest = pair_at worker slot ps (omega arith) in
    record { place = suc rest.place; within = (let w = rest.within in omega arith); there = rest.there })
    (cases_Bool ((p.0 == worker) && (p.1 == slot)))

claim_effect : (old : State) (worker slot : ℕ) → is_held old slot ≡ false → (new : State) × Effect old (Claim worker slot) new
claim_effect old worker slot e =
    let free : holders_of slot old.holds ≡ 0 = let some = ltb-false 0 (holders_of slot old.holds) (both_false (nat_le old.limit slot) (nat_lt 0 (holders_of slot old.holds)) e).1 in omega arith in
    let holds : List (ℕ × ℕ) = old.holds ++ (worker, slot) ∷ [] in (
      record old { holds = holds; marks = set old.marks slot Empty },
      ((free, λ f. let a = weigh-append f old.holds ((worker, slot) ∷ []) in omega arith), refl),
    )

release_effect : (old : State) (worker slot : ℕ) → 1 ≤ times_held worker slot old.holds → (new : State) × Effect old (Release worker slot) new
release_effect old worker slot held =
    let at = pair_at worker slot old.holds held in
    let holds : List (ℕ × ℕ) = take at.place old.holds ++ drop (suc at.place) old.holds in (
      record old { holds = holds },
      (λ f. weigh-out f old.holds at.place (worker, slot) at.within ∙ ap (λ (p : ℕ × ℕ). weigh f holds + f p) at.there, refl),
    )

settle_effect : (m : Mark) (old : State) (slot : ℕ) → is_empty m ≡ false → is_open m ≡ false → (new : State) × Settles old slot m new
settle_effect Empty old slot some replied = absurd (true≢false some)
settle_effect (Open request number) old slot some replied = absurd (true≢false replied)
settle_effect (Replied request number status nack) old slot some replied = (_, refl)

expire_effect : (m : Mark) (old : State) (slot : ℕ) → not (is_open m) ≡ false → (new : State) × Expires old slot m new
expire_effect Empty old slot waits = absurd (true≢false waits)
expire_effect (Open request number) old slot waits = (_, refl)
expire_effect (Replied request number status nack) old slot waits = absurd (true≢false waits)

effect : (old : State) (event : Event) → cause_of old event ≡ None → (new : State) × Effect old event new
effect old (TopUp account amount) e = (_, refl)
effect old (Reserve request account cost) e = (_, refl)
effect old (Claim worker slot) e = claim_effect old worker slot (all_passed (checks old (Claim worker slot)) e).0
effect old (Post worker slot request) e = (_, refl)
effect old (Respond number status nack) e =
    let check = all_passed (checks old (Respond number status nack)) e in
    let w = waits_somewhere number old.marks (not-false _ check.0) in
    (_, record { slot = w.slot; request = w.request; waits = w.there; after = refl })
effect old (Settle worker slot) e =
    settled (all_passed (checks old (Settle worker slot)) e)
  where
    settled : AllPassed (checks old (Settle worker slot)) → (new : State) × Settles old slot (mark_of old slot) new
    settled (held, (some, (replied, end))) = settle_effect (mark_of old slot) old slot some replied
effect old (Expire worker slot) e =
    expired (all_passed (checks old (Expire worker slot)) e)
  where
    expired : AllPassed (checks old (Expire worker slot)) → (new : State) × Expires old slot (mark_of old slot) new
    expired (held, (waits, end)) = expire_effect (mark_of old slot) old slot waits
effect old (Discard request) e = (_, refl)
effect old (Release worker slot) e =
    let check = all_passed (checks old (Release worker slot)) e in
    release_effect old worker slot (some_held (times_held worker slot old.holds) check.0)

answered_by : (old : State) (event : Event) (cause : Option Cause) → cause_of old event ≡ cause → (answer : Step) × (new : State) × Steps old event answer new
answered_by old event (Some cause) e = (Ignored cause, old, (e, refl))
answered_by old event None e = let done = effect old event e in (Done, done.0, (e, done.1))

pub event_steps : EventSteps
event_steps old event = answered_by old event (cause_of old event) refl
