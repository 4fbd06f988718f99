use Rattle.std.proofs.Common.{◌≡◌, ℕ, length, Some}
use Rattle.std.specs.Prelude.{slice_get}
use Rattle.sms_core.specs.declared.row.Row.{Row}
use Rattle.sms_core.specs.Rows.{IsBalanced}
use Rattle.sms_book.specs.declared.opening.Opening.{Opening}
use Rattle.sms_journal.specs.declared.notes.rows.Sums.{Sums}
use Rattle.sms_journal.specs.Sums.{IsSmall, row_with}
use Rattle.sms_journal.proofs.notes.rows.rows_with.Given as goal

abbrev pub invariant-loop-place : goal.invariant-loop-place
invariant-loop-place l = record {
  length : length l.rows.items ≡ l.place;
  each : (i : ℕ) (row : Row) → slice_get l.rows.items i ≡ Some row → (o : Opening) → slice_get l.openings i ≡ Some o → (s : Sums) → slice_get l.sums i ≡ Some s → row ≡ row_with o.credits s;
  balanced : (i : ℕ) (row : Row) → slice_get l.rows.items i ≡ Some row → IsBalanced row;
  small : (i : ℕ) (row : Row) → slice_get l.rows.items i ≡ Some row → IsSmall row;
}
