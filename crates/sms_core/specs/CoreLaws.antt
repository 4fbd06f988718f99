-- What holds of every run of a world, by the definitions alone.
use Rattle.std.specs.Prelude.{◌≡◌, ℕ, Bool, List, Option, Some}
use Rattle.sms_core.specs.declared.event.Event.{Event}
use Rattle.sms_core.specs.declared.event.Event.TheVariants.{Claim, Post, Respond, Settle, Expire}
use Rattle.sms_core.specs.declared.event.Step.{Step}
use Rattle.sms_core.specs.declared.event.Step.TheVariants.{Done, Ignored}
use Rattle.sms_core.specs.declared.event.Cause.TheVariants.{UnknownNumber}
use Rattle.sms_core.specs.declared.mark.Mark.{Mark}
use Rattle.sms_core.specs.declared.mark.Mark.TheVariants.{Open}
use Rattle.sms_core.specs.declared.request.Phase.{Phase}
use Rattle.sms_core.specs.declared.request.Phase.TheVariants.{Ready, Charged, Refused, Unanswered, Unsent, Open as Waiting}
use Rattle.sms_core.specs.declared.request.RequestState.{RequestState}
use Rattle.sms_core.specs.Holds.{IsLawful, holders_of, SamePairs, Claims}
use Rattle.sms_core.specs.Marks.{opened, replied, settled, expired}
use Rattle.sms_core.specs.Numbers.{AreDrawn}
use Rattle.sms_core.specs.Rows.{IsBalanced}
use Rattle.sms_core.specs.State.{State, request_of, row_at, topped_of, times_held, mark_of}
use Rattle.sms_core.specs.Steps.{Steps}
use Rattle.sms_core.specs.Histories.{Moment, IsHistory, FromStart, numbers_given, topped_up, NeverReleased, RestsOn}

-- no slot is held twice
abbrev pub HoldsAreLawful : Type 0
HoldsAreLawful = (ms : List Moment) (w : State) → FromStart ms w → IsLawful w.holds

-- a Claim that is done takes a slot that nobody had, and its worker has it then
abbrev pub ClaimTakesFreeSlot : Type 0
ClaimTakesFreeSlot = (old new : State) (worker slot : ℕ) → Steps old (Claim worker slot) Done new →
    (holders_of slot old.holds ≡ 0) × Claims old.holds worker slot new.holds × (times_held worker slot new.holds ≡ 1)

-- and it stays held by that worker alone until a Release by the same worker is done
abbrev pub SlotStaysHeld : Type 0
SlotStaysHeld = (ms later : List Moment) (old claimed new : State) (worker slot : ℕ) →
    FromStart ms old → Steps old (Claim worker slot) Done claimed → IsHistory claimed later new → NeverReleased worker slot later →
    (times_held worker slot new.holds ≡ 1) × (holders_of slot new.holds ≡ 1)

-- the numbers given by Posts are 1 to next - 1, each once
abbrev pub NumbersGivenOnce : Type 0
NumbersGivenOnce = (ms : List Moment) (w : State) → FromStart ms w → AreDrawn 1 w.next (numbers_given ms)

-- every account's row balances
abbrev pub RowsBalance : Type 0
RowsBalance = (ms : List Moment) (w : State) (account : ℕ) → FromStart ms w → IsBalanced (row_at w account)

-- what an account was topped up with is the sum of its TopUps that are done
abbrev pub ToppedIsSum : Type 0
ToppedIsSum = (ms : List Moment) (w : State) (account : ℕ) → FromStart ms w → topped_of w account ≡ topped_up account ms

abbrev pub IsFinal : Phase → Type 0
IsFinal Ready = ⊥
IsFinal Waiting = ⊥
IsFinal Charged = Unit {0}
IsFinal Refused = Unit {0}
IsFinal Unanswered = Unit {0}
IsFinal Unsent = Unit {0}

-- a request that is charged, refused, unanswered or unsent never changes again
abbrev pub FinalStays : Type 0
FinalStays = (ms later : List Moment) (old new : State) (request : ℕ) (r : RequestState) →
    FromStart ms old → IsHistory old later new → request_of old request ≡ Some r → IsFinal r.phase → request_of new request ≡ Some r

-- a charged request has an accepting answer to one of its own Posts, which came before it
abbrev pub ChargeHasAnswer : Type 0
ChargeHasAnswer = (ms : List Moment) (w : State) (request : ℕ) (r : RequestState) →
    FromStart ms w → request_of w request ≡ Some r → r.phase ≡ Charged → (place : ℕ) × RestsOn ms request place

-- no two requests rest on one answer
abbrev pub AnswerIsOfOne : Type 0
AnswerIsOfOne = (ms : List Moment) (w : State) (one other place : ℕ) →
    FromStart ms w → RestsOn ms one place → RestsOn ms other place → one ≡ other

-- an answer whose number no open slot has is ignored and changes nothing
abbrev pub UnknownIsIgnored : Type 0
UnknownIsIgnored = (old new : State) (number status : ℕ) (nack : Bool) (answer : Step) →
    Steps old (Respond number status nack) answer new → ((slot request : ℕ) → mark_of old slot ≡ Open request number → ⊥) →
    (answer ≡ Ignored UnknownNumber) × (new ≡ old)

-- no two slots wait for answers with one number
abbrev pub OneSlotWaits : Type 0
OneSlotWaits = (ms : List Moment) (w : State) (slot other number request another : ℕ) →
    FromStart ms w → mark_of w slot ≡ Open request number → mark_of w other ≡ Open another number → slot ≡ other

-- two worlds that differ at most in the order of their pairs
abbrev pub SameWorld : State → State → Type 0
SameWorld one other = SamePairs one.holds other.holds × (other ≡ record one { holds = other.holds })

-- an event has one answer, and leaves one world
abbrev pub StepIsDetermined : Type 0
StepIsDetermined = (ms : List Moment) (old one other : State) (event : Event) (first second : Step) →
    FromStart ms old → Steps old event first one → Steps old event second other → (first ≡ second) × SameWorld one other

-- one slot's mark is changed as told, and no other
abbrev pub MovesMark : State → ℕ → (Mark → Option Mark) → State → Type 0
MovesMark old slot change new =
    (change (mark_of old slot) ≡ Some (mark_of new slot)) × ((other : ℕ) → (other ≡ slot → ⊥) → mark_of new other ≡ mark_of old other)

-- a Post opens its slot with the next number
abbrev pub PostOpens : Type 0
PostOpens = (ms : List Moment) (old new : State) (worker slot request : ℕ) →
    FromStart ms old → Steps old (Post worker slot request) Done new → MovesMark old slot (opened request old.next) new

-- an answer is kept with the slot that waits for it
abbrev pub RespondReplies : Type 0
RespondReplies = (old new : State) (number status : ℕ) (nack : Bool) →
    Steps old (Respond number status nack) Done new → (slot : ℕ) × MovesMark old slot (replied number status nack) new

-- a Settle takes its slot's answer
abbrev pub SettleEmpties : Type 0
SettleEmpties = (old new : State) (worker slot : ℕ) → Steps old (Settle worker slot) Done new → MovesMark old slot settled new

-- an Expire ends its slot's wait
abbrev pub ExpireEmpties : Type 0
ExpireEmpties = (old new : State) (worker slot : ℕ) → Steps old (Expire worker slot) Done new → MovesMark old slot expired new
