-- Which messages were sent whole.
use Rattle.std.specs.Prelude.{ℕ, Bool, true, false, List, [], ◌∷◌, sum_by}
use Rattle.std.specs.List.{list_all}
use Rattle.sms_message.specs.declared.ends.MessageEnd.{MessageEnd}
use Rattle.sms_message.specs.declared.ends.MessageResult.{MessageResult}
use Rattle.sms_message.specs.declared.ends.MessageResult.TheVariants as result
use Rattle.sms_message.specs.declared.ends.Outcome.{Outcome}
use Rattle.sms_message.specs.declared.ends.Outcome.TheVariants.{Charged, Refused, Unanswered, Unsent}
use Rattle.sms_message.specs.declared.ends.SegmentEnd.{SegmentEnd}

abbrev pub is_charged : Outcome → Bool
is_charged Charged = true
is_charged Refused = false
is_charged Unanswered = false
is_charged Unsent = false

-- there are segments, and each was charged
abbrev pub are_charged : {S : Type 0} → List (SegmentEnd S) → Bool
are_charged [] = false
are_charged (s ∷ ss) = list_all (λ t. is_charged t.outcome) (s ∷ ss)

-- a message that was refused has no segments
abbrev pub is_whole_result : {S : Type 0} → MessageResult S → Bool
is_whole_result (result.Sent segments) = are_charged segments
is_whole_result (result.Refused refusal) = false

-- the message was sent whole: it has segments, and each was charged
abbrev pub is_whole : {S : Type 0} → MessageEnd S → Bool
is_whole end = is_whole_result end.result

-- each message was
abbrev pub are_whole : {S : Type 0} → List (MessageEnd S) → Bool
are_whole ends = list_all is_whole ends

abbrev pub one_if_whole : Bool → ℕ
one_if_whole true = 1
one_if_whole false = 0

abbrev pub counts_whole : {S : Type 0} → MessageEnd S → ℕ
counts_whole end = one_if_whole (is_whole end)

-- how many were
abbrev pub whole_in : {S : Type 0} → List (MessageEnd S) → ℕ
whole_in ends = sum_by counts_whole ends
