-- How far the messages of a sending are, and the line that says so.
use Rattle.std.specs.Prelude.{ℕ, ◌+◌, ◌-◌, ◌*◌, ◌/◌, ◌==◌, Bool, true, false, List, ◌++◌, length, Option, Some, None, if◌then◌else◌, codes, decimal, slice_get, sum_by}
use Rattle.std.specs.List.{list_any}
use Rattle.sms_message.specs.declared.ends.Attempt.{Attempt}
use Rattle.sms_message.specs.declared.ends.MessageEnd.{MessageEnd}
use Rattle.sms_message.specs.declared.ends.MessageResult.{MessageResult}
use Rattle.sms_message.specs.declared.ends.SegmentEnd.{SegmentEnd}
use Rattle.sms_message.specs.declared.ends.MessageResult.TheVariants as result
use Rattle.sms_message.specs.declared.ends.Outcome.{Outcome}
use Rattle.sms_message.specs.declared.ends.Outcome.TheVariants as outcome
use Rattle.sms_pdu.specs.declared.reply.Reply.{Reply}
use Rattle.sms_files.specs.declared.report.tally.Pace.{Pace}
use Rattle.sms_files.specs.declared.report.tally.Standing.{Standing}
use Rattle.sms_files.specs.declared.report.tally.Standing.TheVariants.{Waiting, Charged, Refused, Unanswered}
use Rattle.sms_files.specs.declared.report.tally.Tally.{Tally}
use Rattle.sms_files.specs.declared.report.tally.WayLine.{WayLine}
use Rattle.sms_files.specs.Summary.{capped}

-- ---- a segment

-- without an outcome: whether it was sent and has no reply yet
abbrev pub open_standing : Option Reply → Standing
open_standing None = Unanswered
open_standing (Some reply) = Waiting

abbrev pub last_standing : {S : Type 0} → Option (Attempt S) → Standing
last_standing None = Waiting
last_standing (Some attempt) = open_standing attempt.reply

abbrev pub standing_of : {S : Type 0} → Outcome → List (Attempt S) → Standing
standing_of outcome.Charged attempts = Charged
standing_of outcome.Refused attempts = Refused
standing_of outcome.Unsent attempts = Refused
standing_of outcome.Unanswered attempts = last_standing (slice_get attempts (length attempts - 1))

abbrev pub segment_standing : {S : Type 0} → SegmentEnd S → Standing
segment_standing segment = standing_of segment.outcome segment.attempts

-- ---- a message

abbrev pub is_waiting : Standing → Bool
is_waiting Waiting = true
is_waiting _ = false

abbrev pub is_charged : Standing → Bool
is_charged Charged = true
is_charged _ = false

abbrev pub is_refused : Standing → Bool
is_refused Refused = true
is_refused _ = false

abbrev pub is_unanswered : Standing → Bool
is_unanswered Unanswered = true
is_unanswered _ = false

-- of segments: waiting where one is, else unanswered where one is, else refused where one is
abbrev pub standing_where : Bool → Bool → Bool → Standing
standing_where waiting unanswered refused = if waiting then Waiting else (if unanswered then Unanswered else (if refused then Refused else Charged))

abbrev pub segments_standing : {S : Type 0} → List (SegmentEnd S) → Standing
segments_standing segments = standing_where (list_any (λ s. is_waiting (segment_standing s)) segments) (list_any (λ s. is_unanswered (segment_standing s)) segments) (list_any (λ s. is_refused (segment_standing s)) segments)

abbrev pub result_standing : {S : Type 0} → MessageResult S → Standing
result_standing (result.Sent segments) = segments_standing segments
result_standing (result.Refused refusal) = Refused

abbrev pub message_standing : {S : Type 0} → MessageEnd S → Standing
message_standing end = result_standing end.result

-- ---- all messages

abbrev pub one_if : Bool → ℕ
one_if true = 1
one_if false = 0

-- how many messages have such a standing
abbrev pub count_of : {S : Type 0} → (Standing → Bool) → List (MessageEnd S) → ℕ
count_of test ends = sum_by (λ end. one_if (test (message_standing end))) ends

-- how many have ended, and how: `open` unanswered segments still wait for an answer
abbrev pub tally_of : {S : Type 0} → List (MessageEnd S) → ℕ → Tally
tally_of ends waiting = record {
  charged = capped (count_of is_charged ends);
  refused = capped (count_of is_refused ends);
  unanswered = capped (count_of is_unanswered ends) - waiting;
}

-- a tally with a message more
abbrev pub counted : Standing → Tally → Tally
counted Waiting tally = tally
counted Charged tally = record { charged = capped (tally.charged + 1); refused = tally.refused; unanswered = tally.unanswered }
counted Refused tally = record { charged = tally.charged; refused = capped (tally.refused + 1); unanswered = tally.unanswered }
counted Unanswered tally = record { charged = tally.charged; refused = tally.refused; unanswered = capped (tally.unanswered + 1) }

-- two tallies together
abbrev pub both : Tally → Tally → Tally
both a b = record { charged = capped (a.charged + b.charged); refused = capped (a.refused + b.refused); unanswered = capped (a.unanswered + b.unanswered) }

abbrev pub ended_in : Tally → ℕ
ended_in tally = capped (tally.charged + tally.refused + tally.unanswered)

-- ---- the line

-- how many messages ended in a second
abbrev pub rate_of : WayLine → ℕ
rate_of line = if line.ms == 0 then 0 else capped (ended_in line.tally * 1000) / line.ms

-- in how many seconds the others end at this rate
abbrev pub left_of : WayLine → Option ℕ
left_of line = if ended_in line.tally == 0 then None else Some (capped ((line.all - ended_in line.tally) * line.ms) / ended_in line.tally / 1000)

abbrev pub pace_of : ℕ → Option ℕ → List ℕ
pace_of rate None = decimal rate ++ codes "/s"
pace_of rate (Some seconds) = decimal rate ++ codes "/s, " ++ decimal seconds ++ codes " s left"

abbrev pub pace_text : Pace → List ℕ
pace_text pace = pace_of pace.rate pace.left

abbrev pub tally_text : Tally → List ℕ
tally_text tally = codes "charged " ++ decimal tally.charged ++ codes " refused " ++ decimal tally.refused ++ codes " unanswered " ++ decimal tally.unanswered

abbrev pub way_text : WayLine → List ℕ
way_text line =
    decimal (ended_in line.tally) ++ codes "/" ++ decimal line.all ++ codes " " ++ tally_text line.tally
    ++ codes ", " ++ pace_of (rate_of line) (left_of line)
