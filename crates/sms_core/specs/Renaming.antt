-- One hold set read as another: each holder under another name, and without the pairs of some holders. So the pairs of a
-- window's seats are read as those of the core's workers: a worker for each seat but the keeper's.
use Rattle.std.specs.Prelude.{◌≡◌, ◌↔◌, ℕ, ◌≤◌, ◌<◌, Bool, true, false, List, [], ◌∷◌, if◌then◌else◌}
use Rattle.sms_core.specs.declared.event.Event.{Event}
use Rattle.sms_core.specs.declared.event.Event.TheVariants.{Claim, Release}
use Rattle.sms_core.specs.declared.event.Step.TheVariants.{Done}
use Rattle.sms_core.specs.declared.mark.Mark.TheVariants.{Empty}
use Rattle.sms_core.specs.Holds.{weigh, is_slot, IsLawful, word_of, SamePairs, Claims, Releases, Passes}
use Rattle.sms_core.specs.Limits.{most_slots}
use Rattle.sms_core.specs.State.{State, new_world, mark_of}
use Rattle.sms_core.specs.Steps.{Steps}

module _ {H : Type 0} where
  -- each holder under another name
  abbrev pub renamed : {K : Type 0} → (H → K) → List (H × ℕ) → List (K × ℕ)
  renamed name [] = []
  renamed name (p ∷ ps) = (name p.0, p.1) ∷ renamed name ps

  -- the pairs of all holders but those left out
  abbrev pub without : (H → Bool) → List (H × ℕ) → List (H × ℕ)
  without is_out [] = []
  without is_out (p ∷ ps) = if is_out p.0 then without is_out ps else p ∷ without is_out ps

  -- in how many pairs the slot is whose holder is left out
  abbrev pub held_out : (H → Bool) → ℕ → List (H × ℕ) → ℕ
  held_out is_out slot ps = weigh (λ p. if is_out p.0 then is_slot slot p else 0) ps

  -- 1 for a pair of such a holder, else 0
  abbrev pub is_of : (H → Bool) → H × ℕ → ℕ
  is_of is_from p = if is_from p.0 then 1 else 0

  -- each step is the same step under other names
  pub record KeepsUnderNames {K : Type 0} (name : H → K) : Type 0 where
    pub lawful : (ps : List (H × ℕ)) → IsLawful (renamed name ps) ↔ IsLawful ps
    pub word : (ps : List (H × ℕ)) → word_of (renamed name ps) ≡ word_of ps
    pub same : (old new : List (H × ℕ)) → SamePairs old new → SamePairs (renamed name old) (renamed name new)
    pub claims : (old new : List (H × ℕ)) (h : H) (slot : ℕ) → Claims old h slot new → Claims (renamed name old) (name h) slot (renamed name new)
    pub releases : (old new : List (H × ℕ)) (h : H) (slot : ℕ) → Releases old h slot new → Releases (renamed name old) (name h) slot (renamed name new)
    -- a join: where the names tell those whose pairs move
    pub passes : (old new : List (H × ℕ)) (is_from : H → Bool) (is_named : K → Bool) (to : H) → ((h : H) → is_named (name h) ≡ is_from h)
        → Passes old is_from to new → Passes (renamed name old) is_named (name to) (renamed name new)

  -- each step of another holder is the same step without those left out, and a step of one of them changes nothing
  pub record KeepsWithout (is_out : H → Bool) : Type 0 where
    pub lawful : (ps : List (H × ℕ)) → IsLawful ps → IsLawful (without is_out ps)
    pub same : (old new : List (H × ℕ)) → SamePairs old new → SamePairs (without is_out old) (without is_out new)
    pub claims : (old new : List (H × ℕ)) (h : H) (slot : ℕ) → is_out h ≡ false → Claims old h slot new → Claims (without is_out old) h slot (without is_out new)
    pub claims_out : (old new : List (H × ℕ)) (h : H) (slot : ℕ) → is_out h ≡ true → Claims old h slot new → SamePairs (without is_out old) (without is_out new)
    pub releases : (old new : List (H × ℕ)) (h : H) (slot : ℕ) → is_out h ≡ false → Releases old h slot new → Releases (without is_out old) h slot (without is_out new)
    pub releases_out : (old new : List (H × ℕ)) (h : H) (slot : ℕ) → is_out h ≡ true → Releases old h slot new → SamePairs (without is_out old) (without is_out new)
    -- a join of holders that stay
    pub passes : (old new : List (H × ℕ)) (is_from : H → Bool) (to : H) → ((h : H) → is_from h ≡ true → is_out h ≡ false) → is_out to ≡ false
        → Passes old is_from to new → Passes (without is_out old) is_from to (without is_out new)
    -- a join of a holder that has no slot any more
    pub passes_none : (old new : List (H × ℕ)) (is_from : H → Bool) (to : H) → weigh (is_of is_from) old ≡ 0
        → Passes old is_from to new → SamePairs (without is_out old) (without is_out new)

abbrev pub NamesKeepSteps : Type 0
NamesKeepSteps = (name : ℕ → ℕ) → KeepsUnderNames name

abbrev pub LeavingOutKeepsSteps : Type 0
LeavingOutKeepsSteps = (is_out : ℕ → Bool) → KeepsWithout is_out

-- The pairs are those of the world's workers, whom `name` tells, and of holders left out, who have the slots beyond the
-- window
pub record AreWorkers (name : ℕ → ℕ) (is_out : ℕ → Bool) (pairs : List (ℕ × ℕ)) (w : State) : Type 0 where
  pub same : SamePairs (renamed name (without is_out pairs)) w.holds
  pub beyond : (slot : ℕ) → w.limit ≤ slot → slot < most_slots → 1 ≤ held_out is_out slot pairs

-- at the opening nobody but those left out has a slot
abbrev pub OpensAsWorkers : Type 0
OpensAsWorkers = (name : ℕ → ℕ) (is_out : ℕ → Bool) (pairs : List (ℕ × ℕ)) (accounts limit attempts : ℕ) → without is_out pairs ≡ []
    → ((slot : ℕ) → limit ≤ slot → slot < most_slots → 1 ≤ held_out is_out slot pairs) → AreWorkers name is_out pairs (new_world accounts limit attempts)

-- what changes no pair is no event
abbrev pub StaysAsWorkers : Type 0
StaysAsWorkers = (name : ℕ → ℕ) (is_out : ℕ → Bool) (old new : List (ℕ × ℕ)) (w : State) → AreWorkers name is_out old w → SamePairs old new → AreWorkers name is_out new w

-- a step of a worker that is done, after which the pairs are those of the world's workers
pub record IsWorkersStep (name : ℕ → ℕ) (is_out : ℕ → Bool) (pairs : List (ℕ × ℕ)) (w : State) (event : Event) : Type 0 where
  pub after : State
  pub steps : Steps w event Done after
  pub workers : AreWorkers name is_out pairs after

-- a claim is the worker's Claim, which is done
abbrev pub ClaimIsWorkers : Type 0
ClaimIsWorkers = (name : ℕ → ℕ) (is_out : ℕ → Bool) (old new : List (ℕ × ℕ)) (h slot : ℕ) (w : State) → AreWorkers name is_out old w
    → is_out h ≡ false → slot < most_slots → Claims old h slot new → IsWorkersStep name is_out new w (Claim (name h) slot)

-- a release of a slot with nothing in it is the worker's Release, which is done
abbrev pub ReleaseIsWorkers : Type 0
ReleaseIsWorkers = (name : ℕ → ℕ) (is_out : ℕ → Bool) (old new : List (ℕ × ℕ)) (h slot : ℕ) (w : State) → AreWorkers name is_out old w
    → is_out h ≡ false → mark_of w slot ≡ Empty → Releases old h slot new → IsWorkersStep name is_out new w (Release (name h) slot)
