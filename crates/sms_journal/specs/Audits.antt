-- What audit prints of a report, and what a fault says.
use Rattle.std.specs.Prelude.{◌≡◌, ◌⊎◌, ℕ, ◌<◌, ◌≤◌, true, List, Option, drop, length}
use Rattle.std.specs.Io.KnownBytes.{Appends}
use Rattle.std.specs.List.{AllByRecursion}
use Rattle.sms_core.specs.declared.event.Event.{Event}
use Rattle.sms_book.specs.Openings.{credits_of}
use Rattle.sms_files.specs.Fields.{records_of}
use Rattle.sms_files.specs.Schedule.{most_events}
use Rattle.sms_files.specs.declared.input.Input.{Input as TheInput}
use Rattle.sms_journal.specs.Files.{IsCut, IsFaultOfFiles, Reads}
use Rattle.sms_journal.specs.Plans.{ArePlans}
use Rattle.sms_journal.specs.ReportParts.{IsFirstUncovered, is_covered, report_parts}
use Rattle.sms_journal.specs.Resting.{IsFaultOfReport}
use Rattle.sms_journal.specs.Schedules.{schedule_of}
use Rattle.sms_journal.specs.ScheduleText.{schedule_text}
use Rattle.sms_journal.specs.Stages.{IsReport}
use Rattle.sms_journal.specs.declared.audit.fault.AuditFault.{AuditFault}
use Rattle.sms_journal.specs.declared.audit.fault.AuditFault.TheVariants.{Run, TooLong}
use Rattle.sms_journal.specs.declared.recovery.fault.RecoveryFault.{RecoveryFault}
use Rattle.sms_journal.specs.declared.recovery.fault.RecoveryFault.TheVariants.{Report}
use Rattle.sms_journal.specs.declared.rest.plan.Plan.{Plan}

-- the octets are a report of this input, whose messages have these plans
pub record IsPlannedReport (input : TheInput) (report : List ℕ) (plans : List Plan) : Type 0 where
  pub are : ArePlans input plans
  pub read : IsReport input.config.retry.policy.attempts plans input.openings.items (records_of report)

-- the events of its parts
abbrev pub events_of : TheInput → List ℕ → List Plan → List Event
events_of input report plans = schedule_of input.config.retry.policy.attempts (credits_of input.openings.items) (report_parts plans (records_of report))

-- each part costs no more than its account was opened with
abbrev pub IsCovered : TheInput → List ℕ → List Plan → Type 0
IsCovered input report plans = AllByRecursion (λ p. is_covered (credits_of input.openings.items) p ≡ true) (report_parts plans (records_of report))

-- the text is the schedule of a report of this input, whose events are no more than replay takes
pub record IsAudited (input : TheInput) (report text : List ℕ) : Type 0 where
  pub plans : List Plan
  pub reported : IsPlannedReport input report plans
  pub covered : IsCovered input report plans
  pub few : length (events_of input report plans) ≤ most_events
  pub text_is : text ≡ schedule_text (length input.openings.items) input.config.retry.policy.attempts (events_of input report plans)

-- it is a report, but this record is the first of a part that costs more
abbrev pub IsUncovered : TheInput → List ℕ → ℕ → Type 0
IsUncovered input report k = (plans : List Plan) × IsPlannedReport input report plans × IsFirstUncovered (credits_of input.openings.items) plans (drop 1 (records_of report)) k

-- or its schedule has more events
abbrev pub IsTooLong : TheInput → List ℕ → Type 0
IsTooLong input report = (plans : List Plan) × IsPlannedReport input report plans × IsCovered input report plans × (most_events < length (events_of input report plans))

-- why there is no schedule of these octets
abbrev pub IsUnaudited : TheInput → List ℕ → AuditFault → Type 0
IsUnaudited input report fault =
    ((f : RecoveryFault) × (fault ≡ Run f) × IsFaultOfReport input report f)
    ⊎ ((k : ℕ) × (fault ≡ Run (Report k)) × IsUncovered input report k)
    ⊎ ((fault ≡ TooLong) × IsTooLong input report)

-- the input was read, and the schedule of its report was written and nothing else
pub record PrintsAudit (config accounts messages : List ℕ) (tariff : Option (List ℕ)) (report : List ℕ) (old new : Option (List ℕ)) : Type 0 where
  pub input : TheInput
  pub read : Reads config accounts messages tariff input
  pub text : List ℕ
  pub audited : IsAudited input report text
  pub written : Appends old new text

-- the output failed after part of the schedule, or memory was refused
abbrev pub IsCutAudit : TheInput → List ℕ → Option (List ℕ) → Option (List ℕ) → AuditFault → Type 0
IsCutAudit input report old new fault = (text : List ℕ) × IsAudited input report text × (f : RecoveryFault) × (fault ≡ Run f) × IsCut text old new f

-- what a fault says: it is of the files, of the report, or of the output
abbrev pub IsFaultOfAudit : List ℕ → List ℕ → List ℕ → Option (List ℕ) → List ℕ → Option (List ℕ) → Option (List ℕ) → AuditFault → Type 0
IsFaultOfAudit config accounts messages tariff report old new fault =
    ((f : RecoveryFault) × (fault ≡ Run f) × IsFaultOfFiles config accounts messages tariff f)
    ⊎ ((input : TheInput) × Reads config accounts messages tariff input × IsUnaudited input report fault)
    ⊎ ((input : TheInput) × Reads config accounts messages tariff input × IsCutAudit input report old new fault)
