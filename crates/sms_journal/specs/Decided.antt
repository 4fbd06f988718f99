-- What a person decided of parts in doubt: a decisions file, and the decisions of a run that it says.
use Rattle.std.specs.Prelude.{◌≡◌, ◌⊎◌, ℕ, ◌+◌, ◌-◌, Bool, true, false, List, [], ◌∷◌, length, Option, Some, None, option_and_then, option_map, slice_get, take, if◌then◌else◌, codes, ◌&&◌, ◌==◌}
use Rattle.std.specs.List.{AllZip}
use Rattle.std.specs.Str.{bytes_eq}
use Rattle.csv.specs.Records.{field_at}
use Rattle.sms_book.specs.declared.opening.Opening.{Opening}
use Rattle.sms_message.specs.declared.ends.MessageEnd.{MessageEnd}
use Rattle.sms_message.specs.declared.ends.SegmentEnd.{SegmentEnd}
use Rattle.sms_message.specs.declared.message.Message.{Message}
use Rattle.sms_message.specs.Ends.{segment_at}
use Rattle.sms_files.specs.Fields.{Field, Record, number_at}
use Rattle.sms_files.specs.Report.{is_unanswered}
use Rattle.sms_files.specs.Rows.{field_is}
use Rattle.sms_ledger.specs.declared.entry.Decision.{Decision}
use Rattle.sms_ledger.specs.declared.entry.Fate.{Fate}
use Rattle.sms_ledger.specs.declared.entry.Fate.TheVariants.{Delivered, Lost}
use Rattle.sms_journal.specs.OfLedger.{ledger_name}
use Rattle.sms_journal.specs.declared.decisions.fault.DecisionFault.{DecisionFault}
use Rattle.sms_journal.specs.declared.decisions.fault.DecisionFault.TheVariants as faults
use Rattle.sms_journal.specs.declared.decisions.said.Decided.{Decided}
use Rattle.sms_journal.specs.declared.recovery.resuming.JournaledRun.{JournaledRun}

-- ---- records

abbrev pub is_decision_header : Record → Bool
is_decision_header r = length r == 3 && (field_is r 0 (codes "message") && (field_is r 1 (codes "part") && field_is r 2 (codes "fate")))

abbrev pub fate_named : Field → Option Fate
fate_named word = if bytes_eq word (codes "delivered") then Some Delivered else (if bytes_eq word (codes "lost") then Some Lost else None)

abbrev pub fate_in : Record → Option Fate
fate_in r = option_and_then fate_named (field_at r 2)

-- a message's index, the number of its part, and what became of that
abbrev pub decided_by : Record → Option Decided
decided_by r =
    option_and_then (λ m. option_and_then (λ p. option_map (λ f. record { message = m; part = p; fate = f }) (fate_in r)) (number_at 255 r 1)) (number_at 0xFFFF_FFFF_FFFF_FFFF r 0)

-- in three fields
abbrev pub decided_in : Record → Option Decided
decided_in r = if length r == 3 then decided_by r else None

-- ---- parts in doubt

abbrev pub cost_in_doubt : Option (SegmentEnd (Unit {0})) → Option ℕ
cost_in_doubt None = None
cost_in_doubt (Some s) = if is_unanswered s.outcome then Some s.cost else None

-- what a part costs that is in doubt; parts count from 1
abbrev pub doubted : List (MessageEnd (Unit {0})) → ℕ → ℕ → Option ℕ
doubted ends m p = if p == 0 then None else cost_in_doubt (segment_at ends m (p - 1))

-- who pays for a message, by the name in the ledger
abbrev pub payer_in : List Opening → Message → Option (List ℕ)
payer_in openings m = option_and_then (λ a. option_and_then ledger_name (slice_get openings a)) m.account

abbrev pub payer_of : JournaledRun → ℕ → Option (List ℕ)
payer_of run m = option_and_then (payer_in run.openings.items) (slice_get run.messages.items m)

abbrev pub decision_by : List ℕ → Decided → ℕ → List ℕ → Decision
decision_by name d cost account = record { of = record { run = name; account = account }; message = d.message; part = d.part; cost = cost; fate = d.fate }

-- the decision that a record says of a run, of this name in the ledger
abbrev pub decision_said : JournaledRun → List ℕ → Record → Option Decision
decision_said run name r =
    option_and_then (λ (d : Decided). option_and_then (λ cost. option_map (λ account. decision_by name d cost account) (payer_of run d.message)) (doubted run.ends.items d.message d.part)) (decided_in r)

-- ---- files

abbrev pub AreDecisionsBehind : JournaledRun → List ℕ → List Record → List Decision → Type 0
AreDecisionsBehind run name rs ds = AllZip (λ r d. decision_said run name r ≡ Some d) rs ds

abbrev pub AreDecisions : JournaledRun → List ℕ → List Record → List Decision → Type 0
AreDecisions run name [] ds = ⊥
AreDecisions run name (header ∷ rs) ds = (is_decision_header header ≡ true) × AreDecisionsBehind run name rs ds

-- the record in this place behind the header is the first that says no decision
pub record IsFirstUndecided (run : JournaledRun) (name : List ℕ) (rs : List Record) (k : ℕ) : Type 0 where
  pub front : List Decision
  pub said : AreDecisionsBehind run name (take k rs) front
  pub bad : Record
  pub there : slice_get rs k ≡ Some bad
  pub none : decision_said run name bad ≡ None

-- nothing is said where memory is refused
abbrev pub IsFaultBehindHeader : JournaledRun → List ℕ → List Record → DecisionFault → Type 0
IsFaultBehindHeader run name rs fault = (fault ≡ faults.OutOfMemory tt) ⊎ ((k : ℕ) × (fault ≡ faults.Record (k + 2)) × IsFirstUndecided run name rs k)

abbrev pub IsFaultOfDecisions : JournaledRun → List ℕ → List Record → DecisionFault → Type 0
IsFaultOfDecisions run name [] fault = (fault ≡ faults.OutOfMemory tt) ⊎ (fault ≡ faults.Record 1)
IsFaultOfDecisions run name (header ∷ rs) fault = ((fault ≡ faults.Record 1) × (is_decision_header header ≡ false)) ⊎ ((is_decision_header header ≡ true) × IsFaultBehindHeader run name rs fault) ⊎ (fault ≡ faults.OutOfMemory tt)
