-- What is held stays lawful, and stays with its worker.
use Rattle.std.proofs.Common.{◌≡◌, ℕ, ◌≤◌, List, [], ◌∷◌, sym, ◌∙◌, subst, ⊎_elim, arith}
use mathlib.Core.Logic.{◌⊎◌, dite}
use native.Mathlib.Decide.{ℕ_discrete}
use Rattle.sms_core.specs.declared.event.Event.{Event}
use Rattle.sms_core.specs.declared.event.Event.TheVariants.{Release}
use Rattle.sms_core.specs.declared.event.Step.{Step}
use Rattle.sms_core.specs.declared.event.Step.TheVariants.{Done}
use Rattle.sms_core.specs.CoreLaws.{HoldsAreLawful, ClaimTakesFreeSlot, SlotStaysHeld}
use Rattle.sms_core.specs.Histories.{Moment, IsHistory, NeverReleased}
use Rattle.sms_core.specs.Holds.{is_slot, holders_of, IsLawful, Claims, Releases}
use Rattle.sms_core.specs.State.{State, is_pair, times_held, new_world}
use Rattle.sms_core.specs.Steps.{Steps}
use Rattle.sms_core.proofs.Held.{lawful_claims, lawful_releases}
use Rattle.sms_core.proofs.Runs.{first_step, later_steps, kept_by_runs, Takes, Frees, turn_of_holds}
use Rattle.sms_core.proofs.Workers.{own_at_most, two_at_most, same_pair, same_slot, other_slot, pair_at_most}
use Rattle.sms_core.proofs.Done.{claim_done}

pub lawful_step : (event : Event) (answer : Step) (old new : State) → Steps old event answer new → IsLawful old.holds → IsLawful new.holds
lawful_step event answer old new s law = ⊎_elim
    (λ (same : new.holds ≡ old.holds). subst IsLawful (sym same) law)
    (λ (other : Takes old new.holds ⊎ Frees event answer old new.holds). ⊎_elim
    (λ (t : Takes old new.holds). lawful_claims old.holds t.worker t.slot new.holds t.claims law)
    (λ (f : Frees event answer old new.holds). lawful_releases old.holds f.worker f.slot new.holds f.releases law)
    other)
    (turn_of_holds event answer old new s)

pub holds_are_lawful : HoldsAreLawful
holds_are_lawful ms w h = kept_by_runs (λ (v : State). IsLawful v.holds) lawful_step ms (new_world h.accounts h.limit h.attempts) w h.history (λ slot. omega arith)

taken : (worker slot : ℕ) (old new : List (ℕ × ℕ)) → Claims old worker slot new → (times_held worker slot new ≡ 1) × (holders_of slot new ≡ 1)
taken worker slot old new c =
    let own = c.1 (is_pair worker slot) in
    let all = c.1 (is_slot slot) in
    let less = own_at_most worker slot old in
    let pair = same_pair worker slot in
    let here = same_slot worker slot in
    (omega arith, omega arith)

pub claim_takes_free_slot : ClaimTakesFreeSlot
claim_takes_free_slot old new worker slot s =
    let claims = (claim_done old new worker slot s).claims in
    (claims.0, claims, (taken worker slot old.holds new.holds claims).0)

-- the worker has the slot, and nobody else has
abbrev IsOwn : ℕ → ℕ → List (ℕ × ℕ) → Type 0
IsOwn worker slot holds = (times_held worker slot holds ≡ 1) × (holders_of slot holds ≡ 1)

own_beside_claim : (worker slot other taken : ℕ) (old new : List (ℕ × ℕ)) → Claims old other taken new → IsOwn worker slot old → IsOwn worker slot new
own_beside_claim worker slot other taken old new c own = dite (ℕ_discrete taken slot)
    (λ e. let none : holders_of slot old ≡ 0 = subst (λ (i : ℕ). holders_of i old ≡ 0) e c.0 in absurd (omega arith))
    (λ ne.
    let mine = c.1 (is_pair worker slot) in
    let all = c.1 (is_slot slot) in
    let none = other_slot other slot taken ne in
    let less = pair_at_most worker slot (other, taken) in
    (omega arith, omega arith))

own_beside_release : (worker slot other freed : ℕ) (old new : List (ℕ × ℕ)) → ((worker ≡ other) × (slot ≡ freed) → ⊥) → 1 ≤ times_held other freed old → Releases old other freed new → IsOwn worker slot old → IsOwn worker slot new
own_beside_release worker slot other freed old new apart held r own = dite (ℕ_discrete freed slot)
    (λ e. dite (ℕ_discrete worker other)
    (λ same. absurd (apart (same, sym e)))
    (λ ne.
    let two = two_at_most worker other slot ne old in
    let there : 1 ≤ times_held other slot old = subst (λ (i : ℕ). 1 ≤ times_held other i old) e held in
    absurd (omega arith)))
    (λ ne.
    let mine = r (is_pair worker slot) in
    let all = r (is_slot slot) in
    let none = other_slot other slot freed ne in
    let less = pair_at_most worker slot (other, freed) in
    (omega arith, omega arith))

own_step : (worker slot : ℕ) (event : Event) (answer : Step) (old new : State) → ((event ≡ Release worker slot) → (answer ≡ Done) → ⊥)
    → Steps old event answer new → IsOwn worker slot old.holds → IsOwn worker slot new.holds
own_step worker slot event answer old new never s own = ⊎_elim
    (λ (same : new.holds ≡ old.holds). subst (IsOwn worker slot) (sym same) own)
    (λ (other : Takes old new.holds ⊎ Frees event answer old new.holds). ⊎_elim
    (λ (t : Takes old new.holds). own_beside_claim worker slot t.worker t.slot old.holds new.holds t.claims own)
    (λ (f : Frees event answer old new.holds).
    own_beside_release worker slot f.worker f.slot old.holds new.holds (λ e. never (f.is ∙ (λ i. Release (sym e.0 i) (sym e.1 i))) f.done) f.held f.releases own)
    other)
    (turn_of_holds event answer old new s)

own_run : (worker slot : ℕ) (ms : List Moment) (old new : State) → IsHistory old ms new → NeverReleased worker slot ms → IsOwn worker slot old.holds → IsOwn worker slot new.holds
own_run worker slot [] old new h never own = subst (λ (w : State). IsOwn worker slot w.holds) (sym h) own
own_run worker slot (m ∷ ms) old new h never own =
    own_run worker slot ms m.after new (later_steps m ms old new h) never.1 (own_step worker slot m.event m.answer old m.after never.0 (first_step m ms old new h) own)

pub slot_stays_held : SlotStaysHeld
slot_stays_held ms later old claimed new worker slot start s h never =
    own_run worker slot later claimed new h never (taken worker slot old.holds claimed.holds (claim_done old claimed worker slot s).claims)
