-- How the answer to a submit_sm is read, and what a list of attempts comes to (SMPP 3.4, 5.1.3).
use Rattle.std.specs.Prelude.{◌≡◌, ℕ, ◌≤◌, ◌==◌, ◌&&◌, ◌||◌, not, Bool, List, [], ◌∷◌, length, Option, Some, None, if◌then◌else◌}
use Rattle.sms_core.specs.Statuses.{no_error, queue_full, throttled}
use Rattle.sms_core.specs.declared.request.Phase.{Phase}
use Rattle.sms_core.specs.declared.request.Phase.TheVariants.{Charged, Refused, Unanswered, Unsent}

-- a submit_sm_resp with ESME_ROK charges; a generic_nack never does
abbrev pub is_charge : ℕ → Bool → Bool
is_charge status nack = not nack && (status == no_error)

-- a submit_sm_resp that says throttled or queue full lets the request be tried again
abbrev pub is_retry : ℕ → Bool → Bool
is_retry status nack = not nack && ((status == throttled) || (status == queue_full))

-- an answer: its command_status, and whether it is a generic_nack
pub record Reply : Type 0 where
  pub status : ℕ
  pub nack : Bool

-- what the last attempt comes to
abbrev pub outcome_of_last : Option Reply → Phase
outcome_of_last None = Unanswered
outcome_of_last (Some reply) = if is_charge reply.status reply.nack then Charged else Refused

-- what a list of attempts comes to, each with its answer if it got one
abbrev pub outcome_of : List (Option Reply) → Phase
outcome_of [] = Unsent
outcome_of (attempt ∷ []) = outcome_of_last attempt
outcome_of (attempt ∷ next ∷ later) = outcome_of (next ∷ later)

-- the attempt was answered by a reply after which the request may be tried again
pub record IsRetried (attempt : Option Reply) : Type 0 where
  pub reply : Reply
  pub came : attempt ≡ Some reply
  pub retries : is_retry reply.status reply.nack ≡ Bool.true

-- each attempt but the last was answered by a retry reply
abbrev pub AreRetried : List (Option Reply) → Type 0
AreRetried [] = Unit {0}
AreRetried (attempt ∷ []) = Unit {0}
AreRetried (attempt ∷ next ∷ later) = IsRetried attempt × AreRetried (next ∷ later)

-- a list of attempts that the retry rule allows, at most so many
abbrev pub AreAllowed : ℕ → List (Option Reply) → Type 0
AreAllowed most attempts = (length attempts ≤ most) × AreRetried attempts
