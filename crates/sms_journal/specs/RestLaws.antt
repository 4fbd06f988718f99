-- Laws of what a report says.
use Rattle.std.specs.Prelude.{◌≡◌, ◌↔◌, IsTrue, ℕ, ◌&&◌, nat_le, true, List, [], ◌∷◌, length, Option, None, option_map}
use Rattle.sms_core.specs.Replies.{AreAllowed, Reply, outcome_of}
use Rattle.sms_message.specs.declared.ends.Outcome.{Outcome}
use Rattle.sms_message.specs.declared.message.Message.{Message}
use Rattle.sms_message.specs.declared.rules.Rules.{Rules}
use Rattle.sms_message.specs.declared.ends.MessageRefusal.{MessageRefusal}
use Rattle.sms_message.specs.Admission.{IsKnown, IsRefusalOf, IsShort}
use Rattle.sms_message.specs.Ends.{phase_of}
use Rattle.sms_message.specs.Submits.{HasAddresses}
use Rattle.sms_journal.specs.declared.rest.plan.Plan.{Plan}
use Rattle.sms_journal.specs.Plans.{IsPlan, is_admitted, may_refuse}
use Rattle.sms_journal.specs.RecordLines.{has_ended}

-- the command_status of the last attempt's answer
abbrev pub last_status : List (Option Reply) → Option ℕ
last_status [] = None
last_status (attempt ∷ []) = option_map (λ reply. reply.status) attempt
last_status (attempt ∷ next ∷ later) = last_status (next ∷ later)

-- so many attempts, of which the last was answered so, are allowed by the retry rule and come to this outcome
pub record CanEnd (most attempts : ℕ) (status : Option ℕ) (outcome : Outcome) : Type 0 where
  pub tried : List (Option Reply)
  pub allowed : AreAllowed most tried
  pub count : length tried ≡ attempts
  pub last : last_status tried ≡ status
  pub come : outcome_of tried ≡ phase_of outcome

-- what is taken of a part is what its attempts can have come to, and all of that is taken
abbrev pub LinesAreOfAttempts : Type 0
LinesAreOfAttempts = (most attempts : ℕ) (status : Option ℕ) (outcome : Outcome) → ((has_ended attempts status outcome && nat_le attempts most) ≡ true) ↔ CanEnd most attempts status outcome

-- a message is taken as refused for the reasons that a run can refuse it for, and for no other
abbrev pub RefusalsAreOfAdmission : Type 0
RefusalsAreOfAdmission =
    (rules : Rules) (accounts : ℕ) (m : Message) (plan : Plan) (refusal : MessageRefusal) → IsPlan rules.long_reference rules.tariff accounts m plan → IsTrue (may_refuse plan refusal) ↔ IsRefusalOf rules accounts m refusal

-- it has parts where no check stands against it
abbrev pub PartsAreOfAdmission : Type 0
PartsAreOfAdmission =
    (rules : Rules) (accounts : ℕ) (m : Message) (plan : Plan) → IsPlan rules.long_reference rules.tariff accounts m plan → IsTrue (is_admitted plan) ↔ (IsKnown accounts m.account × HasAddresses m × IsShort rules m)

-- a message has one plan
abbrev pub PlansAreUnique : Type 0
PlansAreUnique = (rules : Rules) (accounts : ℕ) (m : Message) (plan other : Plan) → IsPlan rules.long_reference rules.tariff accounts m plan → IsPlan rules.long_reference rules.tariff accounts m other → plan ≡ other
