-- The schedule of parts that were sent: the events of the model by which its requests become these parts. One worker takes each through one slot.
use Rattle.std.specs.Prelude.{ℕ, ◌+◌, ◌&&◌, nat_lt, Bool, true, false, List, [], ◌∷◌, ◌++◌, length, Option, Some, None}
use Rattle.sms_core.specs.declared.event.Event.{Event}
use Rattle.sms_core.specs.declared.event.Event.TheVariants.{TopUp, Reserve, Claim, Post, Respond, Settle, Expire, Discard, Release}
use Rattle.sms_core.specs.declared.request.Phase.{Phase}
use Rattle.sms_core.specs.declared.request.Phase.TheVariants.{Ready, Open, Charged, Refused, Unanswered, Unsent}
use Rattle.sms_core.specs.declared.request.Request.{Request}
use Rattle.sms_core.specs.Replies.{Reply, is_retry, outcome_of}
use Rattle.sms_core.specs.Rows.{Entry}
use Rattle.sms_journal.specs.declared.audit.part.SentPart.{SentPart}

-- a part under the name by which the model has it: its place among all parts, from 0
pub record NamedPart : Type 0 where
  pub name : ℕ
  pub part : SentPart

-- what its attempts come to
abbrev pub phase_in : SentPart → Phase
phase_in p = outcome_of p.attempts

-- the request that it is in the model, at the end of all
abbrev pub request_for : NamedPart → Request
request_for n = record { id = n.name; state = record { account = n.part.account; cost = n.part.cost; attempts = length n.part.attempts; phase = phase_in n.part } }

-- what it adds to its account
abbrev pub entry_for : SentPart → Entry
entry_for p = record { account = p.account; cost = p.cost; phase = phase_in p }

-- ---- the events of a part

-- the answer to what was posted with this number comes and is taken; or nobody waits for it any more
abbrev pub answer_events : ℕ → Option Reply → List Event
answer_events number None = Expire 0 0 ∷ []
answer_events number (Some reply) = Respond number reply.status reply.nack ∷ Settle 0 0 ∷ []

-- each attempt takes the next number
abbrev pub attempt_events : ℕ → ℕ → List (Option Reply) → List Event
attempt_events name number [] = []
attempt_events name number (attempt ∷ later) = Post 0 0 name ∷ (answer_events number attempt ++ attempt_events name (number + 1) later)

-- an answer after which the request may be sent again
abbrev pub lets_again : Option Reply → Bool
lets_again None = false
lets_again (Some reply) = is_retry reply.status reply.nack

-- it was never sent, or its last answer is such a one
abbrev pub last_lets_again : List (Option Reply) → Bool
last_lets_again [] = true
last_lets_again (attempt ∷ []) = lets_again attempt
last_lets_again (attempt ∷ next ∷ later) = last_lets_again (next ∷ later)

-- so it may still be sent, where attempts are left, and has to be given up
abbrev pub is_given_up : ℕ → List (Option Reply) → Bool
is_given_up most attempts = last_lets_again attempts && nat_lt (length attempts) most

abbrev pub give_up_events : ℕ → Bool → List Event
give_up_events name true = Discard name ∷ []
give_up_events name false = []

-- of a part, from the next number on
abbrev pub part_events : ℕ → ℕ → NamedPart → List Event
part_events most number n =
    Reserve n.name n.part.account n.part.cost
    ∷ (attempt_events n.name number n.part.attempts ++ give_up_events n.name (is_given_up most n.part.attempts))

abbrev pub parts_events : ℕ → ℕ → List NamedPart → List Event
parts_events most number [] = []
parts_events most number (n ∷ ns) = part_events most number n ++ parts_events most (number + length n.part.attempts) ns

-- ---- the order of the parts

-- first those whose credits came back, then those that were charged, and last those whose credits stay reserved: so each account has the credits
-- that a part asks for, whatever the order in which they were sent
abbrev pub comes_back : Phase → Bool
comes_back Ready = false
comes_back Open = false
comes_back Charged = false
comes_back Refused = true
comes_back Unanswered = false
comes_back Unsent = true

abbrev pub is_charged : Phase → Bool
is_charged Ready = false
is_charged Open = false
is_charged Charged = true
is_charged Refused = false
is_charged Unanswered = false
is_charged Unsent = false

abbrev pub is_unanswered : Phase → Bool
is_unanswered Ready = false
is_unanswered Open = false
is_unanswered Charged = false
is_unanswered Refused = false
is_unanswered Unanswered = true
is_unanswered Unsent = false

abbrev pub where_so : Bool → NamedPart → List NamedPart
where_so true n = n ∷ []
where_so false n = []

-- those of the parts, counted on from a name, whose phase is such a one
abbrev pub those : (Phase → Bool) → ℕ → List SentPart → List NamedPart
those is name [] = []
those is name (p ∷ ps) = where_so (is (phase_in p)) (record { name = name; part = p }) ++ those is (name + 1) ps

abbrev pub in_turn : List SentPart → List NamedPart
in_turn ps = those comes_back 0 ps ++ (those is_charged 0 ps ++ those is_unanswered 0 ps)

-- ---- the whole schedule

-- each account is topped up with the credits that it was opened with
abbrev pub top_ups : ℕ → List ℕ → List Event
top_ups account [] = []
top_ups account (n ∷ ns) = TopUp account n ∷ top_ups (account + 1) ns

abbrev pub schedule_of : ℕ → List ℕ → List SentPart → List Event
schedule_of most credits parts = top_ups 0 credits ++ (Claim 0 0 ∷ (parts_events most 1 (in_turn parts) ++ (Release 0 0 ∷ [])))
