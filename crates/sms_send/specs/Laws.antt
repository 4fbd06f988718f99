-- What is true of the charges of whatever was sent, in the words of SMPP.
use Rattle.std.specs.Prelude.{◌≡◌, ◌<◌, ◌*◌, ℕ, suc, false, List, Some, length, slice_get}
use Rattle.std.specs.Io.KnownBytes.{Consumes}
use Rattle.sms_core.specs.Statuses.{no_error}
use Rattle.sms_pdu.specs.Reply.{AnswersOf}
use Rattle.sms_pdu.specs.declared.reply.Reply.{Reply}
use Rattle.sms_message.specs.Ends.{segment_at}
use Rattle.sms_worker.specs.Rests.{Charge}
use Rattle.sms_worker.specs.Types.{Attempt, MessageEnd, SegmentEnd}
use Rattle.sms_message.specs.declared.ends.Outcome.TheVariants.{Charged}
use Rattle.sms_driver.specs.Answered.{ends_at}
use Rattle.sms_driver.specs.Deals.{dealt}
use Rattle.sms_files.specs.Inputs.{Told}
use Rattle.sms_files.specs.declared.input.Input.{Input}
use Rattle.sms_send.specs.declared.sending.sender.Ended.{Ended}
use Rattle.sms_send.specs.Sent.{IsSent}

-- a submit_sm_resp, no generic_nack, with ESME_ROK and this sequence_number (SMPP 3.4 4.3.1, 4.4.2)
pub record Accepts (number : ℕ) (reply : Reply) : Type 0 where
  pub response : reply.nack ≡ false
  pub status : reply.status ≡ no_error
  pub numbered : reply.number ≡ number

-- it accepts the last attempt of the part
pub record AcceptsLast (s : SegmentEnd) (reply : Reply) : Type 0 where
  pub place : ℕ
  pub last : Attempt
  pub is : slice_get s.attempts place ≡ Some last
  pub no_later : length s.attempts ≡ suc place
  pub accepts : Accepts last.number reply

-- a charged part of one of the messages
pub record ChargedPart (es : List MessageEnd) : Type 0 where
  pub message : ℕ
  pub part : ℕ
  pub segment : SegmentEnd
  pub there : segment_at es message part ≡ Some segment
  pub charged : segment.outcome ≡ Charged

-- what was read of a bind, where the octets are known, and the answers in it (submit_sm_resp and generic_nack), in order
pub record HasAnswers (told : Told) : Type 0 where
  pub left : Told
  pub octets : List ℕ
  pub read : Consumes told left octets
  pub replies : List Reply
  pub are : AnswersOf octets replies

-- each charged part is of a worker of one of the binds, and has a place among the answers in what was read of that bind;
-- the answer there accepts its last attempt
pub record WereRead (told : ℕ → Told) (binds workers : ℕ) (es : List MessageEnd) : Type 0 where
  pub answers : (bind : ℕ) → bind < binds → HasAnswers (told bind)
  pub bind : ChargedPart es → ℕ
  pub is_one : (x : ChargedPart es) → bind x < binds
  pub by_worker : (x : ChargedPart es) → (charge : Charge (ends_at workers (bind x) (dealt (binds * workers) 0 es))) × (charge.segment ≡ x.segment)
  pub place : ChargedPart es → ℕ
  pub accepted : (x : ChargedPart es) → (reply : Reply) × (slice_get (answers (bind x) (is_one x)).replies (place x) ≡ Some reply) × AcceptsLast x.segment reply

-- charged parts of one bind with one place are one part of one message
abbrev pub AreApart : (told : ℕ → Told) (binds workers : ℕ) (es : List MessageEnd) → WereRead told binds workers es → Type 0
AreApart told binds workers es were = (x y : ChargedPart es) → were.bind x ≡ were.bind y → were.place x ≡ were.place y → (x.message ≡ y.message) × (x.part ≡ y.part)

-- of whatever was sent over one or more binds, of one or more workers each
abbrev pub EachChargeWasRead : Type 0
EachChargeWasRead = (told : ℕ → Told) (input : Input) (ended : Ended) → IsSent told input ended → 0 < input.config.limits.binds → 0 < input.config.limits.workers
    → WereRead told input.config.limits.binds input.config.limits.workers ended.ends.items

abbrev pub NoAnswerChargesTwice : Type 0
NoAnswerChargesTwice = (told : ℕ → Told) (input : Input) (ended : Ended) → IsSent told input ended → 0 < input.config.limits.binds → 0 < input.config.limits.workers
    → (were : WereRead told input.config.limits.binds input.config.limits.workers ended.ends.items)
    × AreApart told input.config.limits.binds input.config.limits.workers ended.ends.items were
