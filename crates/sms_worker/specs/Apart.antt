-- Attempts at different places of the ends.
use Rattle.std.specs.Prelude.{◌≡◌, ℕ, List, Some, slice_get}
use Rattle.sms_pdu.specs.declared.reply.Reply.{Reply}
use Rattle.sms_worker.specs.Types.{Attempt, SegmentEnd, MessageEnd}
use Rattle.sms_message.specs.Ends.{segment_at}

-- attempt i of part p of message k
pub record IsAttempt (es : List MessageEnd) (k p i : ℕ) (a : Attempt) : Type 0 where
  pub segment : SegmentEnd
  pub there : segment_at es k p ≡ Some segment
  pub has : slice_get segment.attempts i ≡ Some a

-- no two attempts have one number
abbrev pub NumbersApart : List MessageEnd → Type 0
NumbersApart es = (k p i k' p' i' : ℕ) (a b : Attempt) → IsAttempt es k p i a → IsAttempt es k' p' i' b → a.number ≡ b.number → (k ≡ k') × (p ≡ p') × (i ≡ i')

-- no place of what was received answers two attempts
abbrev pub PlacesApart : List Reply → List MessageEnd → Type 0
PlacesApart received es = (k p i k' p' i' place : ℕ) (a b : Attempt) (r r' : Reply) → IsAttempt es k p i a → IsAttempt es k' p' i' b → a.reply ≡ Some r → b.reply ≡ Some r'
    → slice_get received place ≡ Some r → slice_get received place ≡ Some r' → (k ≡ k') × (p ≡ p') × (i ≡ i')
