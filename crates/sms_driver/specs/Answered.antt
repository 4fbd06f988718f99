-- Each answered attempt of a bind's workers rests on an answer of its own that was read of the bind.
use Rattle.std.specs.Prelude.{◌≡◌, ◌<◌, ℕ, List, Option, Some, slice_get}
use Rattle.std.specs.Io.KnownBytes.{Consumes}
use Rattle.sms_pdu.specs.declared.reply.Reply.{Reply}
use Rattle.sms_pdu.specs.Reply.{AnswersOf}
use Rattle.sms_worker.specs.Apart.{IsAttempt, PlacesApart}
use Rattle.sms_worker.specs.Told.{HeardSince}
use Rattle.sms_worker.specs.Types.{Attempt, MessageEnd}
use Rattle.sms_driver.specs.Seated.{of_bind}

-- an attempt with a reply: its worker, the message, the part, and the attempt's place among the part's attempts
pub record Answered (ess : List (List MessageEnd)) : Type 0 where
  pub worker : ℕ
  pub message : ℕ
  pub part : ℕ
  pub attempt : ℕ
  pub ends : List MessageEnd
  pub theirs : slice_get ess worker ≡ Some ends
  pub one : Attempt
  pub is : IsAttempt ends message part attempt one
  pub reply : Reply
  pub has : one.reply ≡ Some reply

-- each answered attempt has a place of its own among the answers; its reply stands there, and has the attempt's number
pub record RestOn (stream : List Reply) (ess : List (List MessageEnd)) : Type 0 where
  pub place : Answered ess → ℕ
  pub there : (a : Answered ess) → slice_get stream (place a) ≡ Some a.reply
  pub number : (a : Answered ess) → a.reply.number ≡ a.one.number
  pub apart : (a b : Answered ess) → place a ≡ place b → (a.worker ≡ b.worker) × (a.message ≡ b.message) × (a.part ≡ b.part) × (a.attempt ≡ b.attempt)

-- a worker's replies: each has its attempt's number and was received, and no received answer is the reply to two attempts
pub record Hears (received : List Reply) (es : List MessageEnd) : Type 0 where
  pub answered : (k p i : ℕ) (a : Attempt) (r : Reply) → IsAttempt es k p i a → a.reply ≡ Some r → (r.number ≡ a.number) × HeardSince 0 received r
  pub apart : PlacesApart received es

-- the octets that were read of a bind, of which `told` has those that will be given; the answered attempts of the bind's workers rest on the
-- answers in them
pub record IsHeard (told : Option (List ℕ)) (ess : List (List MessageEnd)) : Type 0 where
  pub left : Option (List ℕ)
  pub octets : List ℕ
  pub read : Consumes told left octets
  pub replies : List Reply
  pub are : AnswersOf octets replies
  pub rests : RestOn replies ess

-- the ends of the workers of the bind at this place, if each bind has this many workers
abbrev pub ends_at : ℕ → ℕ → List (List MessageEnd) → List (List MessageEnd)
ends_at workers bind ess = of_bind workers bind ess

-- the same of each bind
abbrev pub AreHeard : (ℕ → Option (List ℕ)) → ℕ → ℕ → List (List MessageEnd) → Type 0
AreHeard told binds workers ess = (bind : ℕ) → bind < binds → IsHeard (told bind) (ends_at workers bind ess)
