-- What a worker handed to its wire: its requests are the frames of its attempts, each as often.
use Rattle.std.specs.Prelude.{◌≡◌, ℕ, ◌+◌, List, map}
use Rattle.sms_bind.specs.Frames.{weigh}
use Rattle.sms_message.specs.declared.message.Message.{Message}
use Rattle.sms_message.specs.Ends.{total}
use Rattle.sms_worker.specs.Types.{Attempt, SegmentEnd, MessageEnd}

-- the frames of attempts, in order
abbrev pub frames_of : List Attempt → List (List ℕ)
frames_of attempts = map (λ a. a.sent) attempts

-- the weights of the frames of a segment's attempts
abbrev pub sent_weight : (List ℕ → ℕ) → SegmentEnd → ℕ
sent_weight h s = weigh h (frames_of s.attempts)

-- the requests grew by the frames of the attempts in the ends
abbrev pub Handed : List (List ℕ) → List (List ℕ) → List Message → List MessageEnd → Type 0
Handed old new ms es = (h : List ℕ → ℕ) → weigh h new ≡ weigh h old + total (λ m s. sent_weight h s) ms es

-- the requests grew by the frames of the attempts that were added to a list
abbrev pub HandsOn : List Attempt → List Attempt → List (List ℕ) → List (List ℕ) → Type 0
HandsOn attempts attempts' old new = (h : List ℕ → ℕ) → weigh h new + weigh h (frames_of attempts) ≡ weigh h old + weigh h (frames_of attempts')
