-- A report is a run of the model.
use Rattle.std.specs.Prelude.{◌≡◌, ℕ, ◌≤◌, true, List, length, Some, slice_get, string_bytes}
use Rattle.std.specs.List.{AllByRecursion}
use Rattle.sms_core.specs.declared.row.Row.{Row}
use Rattle.sms_core.specs.Limits.{largest_cost, most_topped, top_number}
use Rattle.sms_core.specs.State.{AreLimits, rows}
use Rattle.sms_book.specs.Openings.{credits_of}
use Rattle.sms_book.specs.declared.opening.Opening.{Opening}
use Rattle.sms_files.specs.Fields.{Record}
use Rattle.sms_journal.specs.declared.rest.plan.Plan.{Plan}
use Rattle.sms_journal.specs.RecordLines.{account_in}
use Rattle.sms_journal.specs.ReportParts.{is_covered, report_parts, statement_in}
use Rattle.sms_journal.specs.ScheduleLaws.{IsRunOf, attempts_in}
use Rattle.sms_journal.specs.Stages.{IsReport}

-- what a part costs is what the model lets a request cost
pub record IsPlanned (plan : Plan) : Type 0 where
  pub some : 1 ≤ plan.cost
  pub few : plan.cost ≤ largest_cost

-- a report of messages of these plans and of accounts that were opened so, none of whose parts costs more than its account was opened with
pub record IsCoveredReport (most : ℕ) (plans : List Plan) (openings : List Opening) (report : List Record) : Type 0 where
  pub limits : AreLimits (length openings) 1 most
  pub topped : AllByRecursion (λ n. n ≤ most_topped) (credits_of openings)
  pub planned : AllByRecursion IsPlanned plans
  pub read : IsReport most plans openings report
  pub covered : AllByRecursion (λ p. is_covered (credits_of openings) p ≡ true) (report_parts plans report)
  pub numbers : attempts_in (report_parts plans report) ≤ top_number

-- the account's record in the statement is its row in the model
pub record IsRowTold (report : List Record) (i : ℕ) (o : Opening) (row : Row) : Type 0 where
  pub told : Record
  pub there : slice_get (statement_in report) i ≡ Some told
  pub is : account_in (string_bytes o.name) row told ≡ true

pub record IsReportRun (most : ℕ) (plans : List Plan) (openings : List Opening) (report : List Record) : Type 0 where
  pub run : IsRunOf most (credits_of openings) (report_parts plans report)
  pub statement : (i : ℕ) (o : Opening) → slice_get openings i ≡ Some o → (row : Row) × (rows run.world i ≡ Some row) × IsRowTold report i o row

abbrev pub ReportsAreRuns : Type 0
ReportsAreRuns = (most : ℕ) (plans : List Plan) (openings : List Opening) (report : List Record) → IsCoveredReport most plans openings report → IsReportRun most plans openings report
