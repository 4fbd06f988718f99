-- How many marks speak of a request, and whether it waits for its answer.
use Rattle.std.proofs.Common.{◌≡◌, ◌≢◌, ℕ, zero, suc, ◌+◌, ◌<◌, ◌≤◌, ◌==◌, List, [], ◌∷◌, length, set, get_or, Option, Some, None, refl, arith, eq-eqb, ne_eqb}
use Rattle.std.specs.Prelude.{if◌then◌else◌, replicate}
use Rattle.sms_core.specs.declared.mark.Mark.{Mark}
use Rattle.sms_core.specs.declared.mark.Mark.TheVariants.{Empty, Open, Replied}
use Rattle.sms_core.specs.declared.request.Phase.{Phase}
use Rattle.sms_core.specs.declared.request.Phase.TheVariants.{Ready, Charged, Refused, Unanswered, Unsent, Open as Waiting}
use Rattle.sms_core.specs.declared.request.RequestState.{RequestState}

abbrev pub is_name : ℕ → ℕ → ℕ
is_name id name = if name == id then 1 else 0

pub this_name : (id name : ℕ) → name ≡ id → is_name id name ≡ 1
this_name id name is = rw (eq-eqb name id is) refl

pub other_name : (id name : ℕ) → name ≢ id → is_name id name ≡ 0
other_name id name ne = rw (ne_eqb name id ne) refl

-- 1 for a mark of the request, else 0
abbrev pub speaks : ℕ → Mark → ℕ
speaks id Empty = 0
speaks id (Open request number) = is_name id request
speaks id (Replied request number status nack) = is_name id request

abbrev pub spoken : ℕ → List Mark → ℕ
spoken id [] = 0
spoken id (m ∷ ms) = speaks id m + spoken id ms

pub spoken_set : (id : ℕ) (ms : List Mark) (slot : ℕ) (m : Mark) → slot < length ms → spoken id (set ms slot m) + speaks id (get_or ms slot Empty) ≡ spoken id ms + speaks id m
spoken_set id [] slot m inside = absurd (omega arith)
spoken_set id (x ∷ ms) zero m inside = omega arith
spoken_set id (x ∷ ms) (suc slot) m inside = let rest = spoken_set id ms slot m (omega arith) in omega arith

pub spoken_clear : (id : ℕ) (ms : List Mark) (slot : ℕ) → spoken id (set ms slot Empty) + speaks id (get_or ms slot Empty) ≡ spoken id ms
spoken_clear id [] slot = omega arith
spoken_clear id (x ∷ ms) zero = omega arith
spoken_clear id (x ∷ ms) (suc slot) = let rest = spoken_clear id ms slot in omega arith

pub spoken_none : (id n : ℕ) → spoken id (replicate n Empty) ≡ 0
spoken_none id zero = refl
spoken_none id (suc n) = let rest = spoken_none id n in omega arith

abbrev pub is_waiting : Phase → ℕ
is_waiting Ready = 0
is_waiting Waiting = 1
is_waiting Charged = 0
is_waiting Refused = 0
is_waiting Unanswered = 0
is_waiting Unsent = 0

-- 1 for a request that was sent and waits, else 0
abbrev pub waiting : Option RequestState → ℕ
waiting None = 0
waiting (Some s) = is_waiting s.phase

phase_waiting : (p : Phase) → 1 ≤ is_waiting p → p ≡ Waiting
phase_waiting Ready l = absurd (omega arith)
phase_waiting Waiting l = refl
phase_waiting Charged l = absurd (omega arith)
phase_waiting Refused l = absurd (omega arith)
phase_waiting Unanswered l = absurd (omega arith)
phase_waiting Unsent l = absurd (omega arith)

-- the request is known and waits
pub record IsThatWaits (o : Option RequestState) : Type 0 where
  pub state : RequestState
  pub known : o ≡ Some state
  pub waits : state.phase ≡ Waiting

pub request_waiting : (o : Option RequestState) → 1 ≤ waiting o → IsThatWaits o
request_waiting None l = absurd (omega arith)
request_waiting (Some s) l = record { state = s; known = refl; waits = phase_waiting s.phase l }
