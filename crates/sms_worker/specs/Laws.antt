-- Laws of what workers hand back.
use Rattle.std.specs.Prelude.{◌≡◌, ℕ, suc, false, List, Some, length, slice_get}
use Rattle.sms_core.specs.Statuses.{no_error}
use Rattle.sms_pdu.specs.declared.reply.Reply.{Reply}
use Rattle.sms_message.specs.declared.message.Message.{Message}
use Rattle.sms_message.specs.declared.rules.Rules.{Rules}
use Rattle.sms_message.specs.declared.ends.Outcome.TheVariants.{Charged}
use Rattle.sms_worker.specs.Types.{Attempt, SegmentEnd}
use Rattle.sms_worker.specs.Told.{HeardSince, IsTold}
use Rattle.sms_message.specs.Results.{IsSettled}

-- its last attempt was answered by a submit_sm_resp with ESME_ROK and the attempt's number, which came in this call
pub record HasCharge (before : ℕ) (received : List Reply) (s : SegmentEnd) : Type 0 where
  pub place : ℕ
  pub attempt : Attempt
  pub reply : Reply
  pub is : slice_get s.attempts place ≡ Some attempt
  pub last : length s.attempts ≡ suc place
  pub answered : attempt.reply ≡ Some reply
  pub number : reply.number ≡ attempt.number
  pub status : reply.status ≡ no_error
  pub response : reply.nack ≡ false
  pub came : HeardSince before received reply

-- each charge rests on such an answer
abbrev pub ChargesAreAnswered : Type 0
ChargesAreAnswered =
    (rules : Rules) (before : ℕ) (received : List Reply) (m : Message) (p : ℕ) (s : SegmentEnd)
    → IsTold rules before received m p s → IsSettled rules.policy.attempts s → s.outcome ≡ Charged → HasCharge before received s
