-- The line at the end of a sending: how many messages and segments there were, how many messages were sent whole, and where the credits stand.
use Rattle.std.specs.Prelude.{Bool, true, false, [], ℕ, ◌-◌, ◌/◌, ◌%◌, ◌^◌, List, ◌++◌, length, min, sum_by, codes, decimal}
use Rattle.sms_core.specs.declared.row.Row.{Row}
use Rattle.sms_message.specs.declared.ends.MessageEnd.{MessageEnd}
use Rattle.sms_message.specs.declared.ends.MessageResult.{MessageResult}
use Rattle.sms_message.specs.declared.ends.MessageResult.TheVariants.{Sent, Refused}
use Rattle.sms_files.specs.declared.report.summary.Credits.{Credits}
use Rattle.sms_files.specs.declared.report.summary.EndLine.{EndLine}
use Rattle.sms_files.specs.declared.report.summary.Summary.{Summary}
use Rattle.sms_files.specs.Whole.{whole_in}

-- a sum, and the greatest number of 64 bits where it is more
abbrev pub capped : ℕ → ℕ
capped n = min n (2 ^ 64 - 1)

-- how many segments a message was sent as
abbrev pub segments_of : {S : Type 0} → MessageResult S → ℕ
segments_of (Sent segments) = length segments
segments_of (Refused refusal) = 0

abbrev pub segments_in : {S : Type 0} → MessageEnd S → ℕ
segments_in end = segments_of end.result

-- the sums of the statement's columns
abbrev pub credits_of : List Row → Credits
credits_of rows = record {
  charged = capped (sum_by (λ row. row.charged) rows);
  returned = capped (sum_by (λ row. row.returned) rows);
  reserved = capped (sum_by (λ row. row.reserved) rows);
}

-- the messages and segments of the report, and these sums
abbrev pub summary_of : {S : Type 0} → List (MessageEnd S) → List Row → Summary
summary_of ends rows = record { messages = length ends; whole = capped (whole_in ends); segments = capped (sum_by segments_in ends); credits = credits_of rows }

-- the line that ends a sending: seconds with a tenth, cut off

abbrev pub credits_text : Credits → List ℕ
credits_text credits = codes "credits charged " ++ decimal credits.charged ++ codes ", returned " ++ decimal credits.returned ++ codes ", still reserved " ++ decimal credits.reserved

-- how many messages there were, and how many of them were sent whole and not
abbrev pub count_text : ℕ → ℕ → List ℕ
count_text messages whole = decimal messages ++ codes " (" ++ decimal whole ++ codes " sent whole, " ++ decimal (messages - whole) ++ codes " not)"

abbrev pub summary_text : Summary → List ℕ
summary_text summary = codes "messages " ++ count_text summary.messages summary.whole ++ codes ", segments " ++ decimal summary.segments ++ codes ", " ++ credits_text summary.credits

abbrev pub seconds_text : ℕ → List ℕ
seconds_text ms = decimal (ms / 1000) ++ codes "." ++ decimal (ms % 1000 / 100)

-- what it says of a trial
abbrev pub trial_text : Bool → List ℕ
trial_text true = codes "; a trial: no message centre saw any of it"
trial_text false = []

abbrev pub done_text : EndLine → List ℕ
done_text line = codes "done: " ++ summary_text line.summary ++ codes ", seconds " ++ seconds_text line.ms ++ trial_text line.trial
