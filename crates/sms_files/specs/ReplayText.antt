-- What replay prints: a line for each event, account, request and held slot, and the next number.
use Rattle.std.specs.Prelude.{ℕ, ◌+◌, zero, suc, List, [], ◌∷◌, ◌++◌, length, Option, Some, None, codes, decimal, flat_map}
use Rattle.sms_core.specs.declared.event.Step.{Step}
use Rattle.sms_core.specs.declared.event.Step.TheVariants.{Done, Ignored}
use Rattle.sms_core.specs.declared.event.Cause.{Cause}
use Rattle.sms_core.specs.declared.event.Cause.TheVariants.{NoAccount, NoCredit, SlotHeld, NotHolder, SlotBusy, NoRequest, NotOpen, UnknownNumber, NumbersUsedUp, AmountTooLarge, RequestKnown, BadCost, NoReply}
use Rattle.sms_core.specs.declared.request.Phase.{Phase}
use Rattle.sms_core.specs.declared.request.Phase.TheVariants.{Ready, Open, Charged, Refused, Unanswered, Unsent}
use Rattle.sms_core.specs.declared.request.Request.{Request}
use Rattle.sms_core.specs.declared.row.Row.{Row}
use Rattle.sms_core.specs.Limits.{most_slots}
use Rattle.sms_core.specs.State.{State, rows, holder_of}

-- the names of the causes and the phases

abbrev pub cause_name : Cause → List ℕ
cause_name NoAccount = codes "NoAccount"
cause_name NoCredit = codes "NoCredit"
cause_name SlotHeld = codes "SlotHeld"
cause_name NotHolder = codes "NotHolder"
cause_name SlotBusy = codes "SlotBusy"
cause_name NoRequest = codes "NoRequest"
cause_name NotOpen = codes "NotOpen"
cause_name UnknownNumber = codes "UnknownNumber"
cause_name NumbersUsedUp = codes "NumbersUsedUp"
cause_name AmountTooLarge = codes "AmountTooLarge"
cause_name RequestKnown = codes "RequestKnown"
cause_name BadCost = codes "BadCost"
cause_name NoReply = codes "NoReply"

abbrev pub phase_name : Phase → List ℕ
phase_name Ready = codes "ready"
phase_name Open = codes "open"
phase_name Charged = codes "charged"
phase_name Refused = codes "refused"
phase_name Unanswered = codes "unanswered"
phase_name Unsent = codes "unsent"

-- the lines

abbrev pub event_line : ℕ → Step → List ℕ
event_line place Done = decimal place ++ codes " done\n"
event_line place (Ignored cause) = decimal place ++ codes " ignored " ++ cause_name cause ++ codes "\n"

-- a line for each event, counted on from a place
abbrev pub event_lines : ℕ → List Step → List ℕ
event_lines place [] = []
event_lines place (s ∷ ss) = event_line place s ++ event_lines (place + 1) ss

abbrev pub account_line : ℕ → Row → List ℕ
account_line account row =
    codes "account " ++ decimal account ++ codes " topped " ++ decimal row.topped ++ codes " free " ++ decimal row.free
    ++ codes " reserved " ++ decimal row.reserved ++ codes " charged " ++ decimal row.charged ++ codes " returned " ++ decimal row.returned ++ codes "\n"

-- nothing where there is no such account
abbrev pub row_line : ℕ → Option Row → List ℕ
row_line account None = []
row_line account (Some row) = account_line account row

abbrev pub request_line : Request → List ℕ
request_line r =
    codes "request " ++ decimal r.id ++ codes " account " ++ decimal r.state.account ++ codes " cost " ++ decimal r.state.cost
    ++ codes " attempts " ++ decimal r.state.attempts ++ codes " " ++ phase_name r.state.phase ++ codes "\n"

-- nothing for a slot that nobody holds
abbrev pub slot_line : ℕ → Option ℕ → List ℕ
slot_line slot None = []
slot_line slot (Some worker) = codes "held " ++ decimal slot ++ codes " by " ++ decimal worker ++ codes "\n"

-- what a text is for each number below a bound, in order
unfoldable pub each_below : ℕ → (ℕ → List ℕ) → List ℕ
each_below zero text = []
each_below (suc n) text = each_below n text ++ text n

abbrev pub account_lines : State → List ℕ
account_lines w = each_below (length w.topped) (λ account. row_line account (rows w account))

abbrev pub or_none : List ℕ → List ℕ
or_none [] = codes "held none\n"
or_none (c ∷ cs) = c ∷ cs

abbrev pub slot_lines : State → List ℕ
slot_lines w = each_below most_slots (λ slot. slot_line slot (holder_of w slot))

-- the whole output
abbrev pub replay_text : List Step → State → List ℕ
replay_text answers w =
    event_lines 1 answers ++ account_lines w ++ flat_map request_line w.requests ++ or_none (slot_lines w)
    ++ codes "next " ++ decimal w.next ++ codes "\n"
