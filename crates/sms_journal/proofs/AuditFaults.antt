-- What is audited of a report, and what a fault says.
use Rattle.std.proofs.Common.{◌≡◌, ◌⊎◌, ◌∙◌, ℕ, ◌<◌, ◌≤◌, true, List, length, drop, Option, inl, inr, refl, ap, subst, ⊎_elim}
use Rattle.std.specs.List.{AllByRecursion}
use Rattle.std.specs.Io.KnownBytes.{Appends}
use Rattle.sms_book.specs.Openings.{credits_of}
use Rattle.sms_book.specs.declared.opening.Opening.{Opening}
use Rattle.sms_files.specs.Fields.{Record, records_of}
use Rattle.sms_files.specs.Schedule.{most_events}
use Rattle.sms_files.specs.declared.input.Input.{Input}
use Rattle.sms_journal.specs.declared.audit.fault.AuditFault.{AuditFault}
use Rattle.sms_journal.specs.declared.audit.fault.AuditFault.TheVariants.{Run, TooLong}
use Rattle.sms_journal.specs.declared.audit.part.SentPart.{SentPart}
use Rattle.sms_journal.specs.declared.recovery.fault.RecoveryFault.{RecoveryFault}
use Rattle.sms_journal.specs.declared.recovery.fault.RecoveryFault.TheVariants.{Report}
use Rattle.sms_journal.specs.declared.rest.plan.Plan.{Plan}
use Rattle.sms_journal.specs.Audits.{IsAudited, IsFaultOfAudit, IsPlannedReport, IsUnaudited, PrintsAudit, events_of}
use Rattle.sms_journal.specs.Faults.{out_of_memory}
use Rattle.sms_journal.specs.Files.{IsCut, Reads}
use Rattle.sms_journal.specs.ReportParts.{IsFirstUncovered, is_covered, parts_in, report_parts}
use Rattle.sms_journal.specs.Schedules.{schedule_of}
use Rattle.sms_journal.specs.ScheduleText.{schedule_text}

-- ---- the schedule of a report

-- memory was refused
pub unaudited_memory : (input : Input) (report : List ℕ) → IsUnaudited input report (Run out_of_memory)
unaudited_memory input report = inl (out_of_memory, refl, inl refl)

module _ (input : Input) (report : List ℕ) (plans : List Plan) (lines : List Record) (openings : List Opening) (most : ℕ) (planned : IsPlannedReport input report plans) (lines_are : lines ≡ drop 1 (records_of report))
    (openings_are : openings ≡ input.openings.items) (most_is : most ≡ input.config.retry.policy.attempts) where
  -- a line's part was not covered, or memory was refused
  pub unaudited_line : (f : RecoveryFault) → (f ≡ out_of_memory) ⊎ ((k : ℕ) × (f ≡ Report k) × IsFirstUncovered (credits_of openings) plans lines k) → IsUnaudited input report (Run f)
  unaudited_line f h = ⊎_elim
      (λ (memory : f ≡ out_of_memory). inl (f, refl, inl memory))
      (λ (line : (k : ℕ) × (f ≡ Report k) × IsFirstUncovered (credits_of openings) plans lines k).
      inr (inl (
        line.0,
        ap (λ (r : RecoveryFault). Run r) line.1,
        (
          plans,
          planned,
          subst (λ (os : List Opening). IsFirstUncovered (credits_of os) plans (drop 1 (records_of report)) line.0) openings_are (subst (λ (ls : List Record). IsFirstUncovered (credits_of openings) plans ls line.0) lines_are line.2),
        ),
      )))
      h

  module _ (parts : List SentPart) (parts_are : parts ≡ parts_in plans lines) (covered : AllByRecursion (λ (p : SentPart). is_covered (credits_of openings) p ≡ true) parts) where
    parts_of_report : parts ≡ report_parts plans (records_of report)
    parts_of_report = parts_are ∙ ap (parts_in plans) lines_are

    all_covered : AllByRecursion (λ (p : SentPart). is_covered (credits_of input.openings.items) p ≡ true) (report_parts plans (records_of report))
    all_covered =
        subst (λ (ps : List SentPart). AllByRecursion (λ (p : SentPart). is_covered (credits_of input.openings.items) p ≡ true) ps) parts_of_report
        (subst (λ (os : List Opening). AllByRecursion (λ (p : SentPart). is_covered (credits_of os) p ≡ true) parts) openings_are covered)

    same_events : schedule_of most (credits_of openings) parts ≡ events_of input report plans
    same_events = λ i. schedule_of (most_is i) (credits_of (openings_are i)) (parts_of_report i)

    pub too_long : (events : ℕ) → events ≡ length (schedule_of most (credits_of openings) parts) → most_events < events → IsUnaudited input report TooLong
    too_long events count more = inr (inr (refl, (plans, planned, all_covered, subst (λ (n : ℕ). most_events < n) (count ∙ ap length same_events) more)))

    pub audited_so : (events : ℕ) (text : List ℕ) → events ≡ length (schedule_of most (credits_of openings) parts) → events ≤ most_events
        → text ≡ schedule_text (length openings) most (schedule_of most (credits_of openings) parts) → IsAudited input report text
    audited_so events text count few is = record {
      plans = plans;
      reported = planned;
      covered = all_covered;
      few = subst (λ (n : ℕ). n ≤ most_events) (count ∙ ap length same_events) few;
      text_is = is ∙ (λ i. schedule_text (length (openings_are i)) (most_is i) (same_events i));
    }

-- ---- what is printed

module _ (config accounts messages : List ℕ) (tariff : Option (List ℕ)) (report : List ℕ) (old new : Option (List ℕ)) (input : Input) (read : Reads config accounts messages tariff input) where
  pub unaudited_run : (fault : AuditFault) → IsUnaudited input report fault → IsFaultOfAudit config accounts messages tariff report old new fault
  unaudited_run fault h = inr (inl (input, read, h))

  pub prints_audit : (text written : List ℕ) → IsAudited input report text → written ≡ text → Appends old new written → PrintsAudit config accounts messages tariff report old new
  prints_audit text written audited is h = record { input = input; read = read; text = text; audited = audited; written = subst (λ (t : List ℕ). Appends old new t) is h }

  pub cut_audit : (text written : List ℕ) (f : RecoveryFault) → IsAudited input report text → written ≡ text → IsCut written old new f → IsFaultOfAudit config accounts messages tariff report old new (Run f)
  cut_audit text written f audited is h = inr (inr (input, read, (text, audited, f, refl, subst (λ (t : List ℕ). IsCut t old new f) is h)))
