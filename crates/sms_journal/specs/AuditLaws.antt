-- What audit prints is a run of the model.
use Rattle.std.specs.Prelude.{ℕ, ◌≤◌, List, Option}
use Rattle.sms_core.specs.Limits.{most_attempts}
use Rattle.sms_files.specs.Fields.{records_of}
use Rattle.sms_files.specs.declared.input.Input.{Input as TheInput}
use Rattle.sms_journal.specs.Audits.{IsAudited}
use Rattle.sms_journal.specs.Files.{Reads}
use Rattle.sms_journal.specs.ReportLaws.{IsReportRun}

-- of the files of a run, whose config lets a part be sent 1 to 10 times, and of each report that audit takes: the events that it prints are a run of the model in which each is done, and each row of the
-- report's statement is the account's row in it
abbrev pub AuditsAreRuns : Type 0
AuditsAreRuns =
    (config accounts messages : List ℕ) (tariff : Option (List ℕ)) (input : TheInput) (report text : List ℕ) → Reads config accounts messages tariff input → (audited : IsAudited input report text) → 1 ≤ input.config.retry.policy.attempts
    → input.config.retry.policy.attempts ≤ most_attempts
    → IsReportRun input.config.retry.policy.attempts audited.plans input.openings.items (records_of report)
