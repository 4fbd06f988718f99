-- What a bill comes to.
use Rattle.std.specs.Prelude.{◌≡◌, ◌≢◌, ◌++◌, ℕ, List, [], Some, filter, slice_get, sum_by, string_bytes, flat_map, if◌then◌else◌, String}
use Rattle.std.specs.declared.alloc.Global.{Global}
use Rattle.std.specs.Str.{bytes_eq}
use Rattle.sms_core.specs.declared.request.Phase.{Phase}
use Rattle.sms_core.specs.declared.row.Row.{Row}
use Rattle.sms_core.specs.Rows.{charged_of, reserved_of, returned_of}
use Rattle.sms_book.specs.Openings.{NoDouble, names_of}
use Rattle.sms_book.specs.declared.opening.Opening.{Opening}
use Rattle.sms_message.specs.declared.message.Message.{Message}
use Rattle.sms_message.specs.declared.ends.MessageEnd.{MessageEnd}
use Rattle.sms_message.specs.Ends.{phase_of}
use Rattle.sms_files.specs.Report.{is_unanswered}
use Rattle.sms_journal.specs.declared.notes.note.Note.{Note}
use Rattle.sms_journal.specs.declared.bill.listing.Listing.TheVariants.{Doubtful}
use Rattle.sms_journal.specs.Bill.{Billed, billed, doubted_fields, doubted_text, line_of, line_with, part_text, ref_end}
use Rattle.sms_journal.specs.Recovering.{AreRecoveredRows}

-- what a part adds to the account of this name
abbrev pub paid_by : (Phase → ℕ → ℕ) → List ℕ → Billed → ℕ
paid_by f name b = if bytes_eq b.account name then f (phase_of b.outcome) b.cost else 0

-- the costs of an account's parts: those that were charged, those that are unanswered, and those that were refused or not sent
pub record AddsUp (name : List ℕ) (parts : List Billed) (row : Row) : Type 0 where
  pub charged : sum_by (paid_by charged_of name) parts ≡ row.charged
  pub unanswered : sum_by (paid_by reserved_of name) parts ≡ row.reserved
  pub returned : sum_by (paid_by returned_of name) parts ≡ row.returned

-- they are the account's row of the statement, of accounts that have names, each its own
abbrev pub BillsAddUp : Type 0
BillsAddUp =
    (os : List Opening) (times : List ℕ) (notes : List Note) (ms : List Message) (es : List (MessageEnd (Unit {0}))) (rows : List Row) → AreRecoveredRows os ms es rows → NoDouble (names_of os)
    → (i : ℕ) (o : Opening) (row : Row) → slice_get os i ≡ Some o → slice_get rows i ≡ Some row → string_bytes o.name ≢ [] → AddsUp (string_bytes o.name) (billed os times notes ms es) row

-- the parts in doubt are the unanswered parts of the bill, in its order
abbrev pub DoubtsAreOfTheBill : Type 0
DoubtsAreOfTheBill =
    (parts : List Billed) → flat_map (line_of Doubtful) parts ≡ flat_map (λ (b : Billed). part_text b ++ doubted_text b) (filter (λ (b : Billed). is_unanswered b.outcome) parts)

-- so they are with references, each line with that of its message
abbrev pub DoubtsHaveRefs : Type 0
DoubtsHaveRefs =
    (refs : List (String Global)) (parts : List Billed)
    → flat_map (line_with Doubtful refs) parts
    ≡ flat_map (λ (b : Billed). part_text b ++ doubted_fields b ++ ref_end refs b.message) (filter (λ (b : Billed). is_unanswered b.outcome) parts)
