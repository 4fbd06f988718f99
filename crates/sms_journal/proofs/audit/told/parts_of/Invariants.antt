use Rattle.std.proofs.Common.{◌≡◌, ℕ, ◌<◌, ◌++◌, true, false, map, drop, Some}
use Rattle.std.specs.Prelude.{slice_get}
use Rattle.std.specs.List.{AllByRecursion}
use Rattle.csv.specs.Records.{fields_of}
use Rattle.sms_book.specs.Openings.{credits_of}
use Rattle.sms_files.specs.Fields.{Record}
use Rattle.sms_journal.specs.RecordLines.{is_statement_header}
use Rattle.sms_journal.specs.ReportParts.{are_covered, is_covered, parts_in}
use Rattle.sms_journal.proofs.audit.told.parts_of.Given as goal

abbrev pub invariant-loop-place : goal.invariant-loop-place
invariant-loop-place l = record {
  front : l.parts.items ++ parts_in l.plans (map fields_of (drop l.place l.lines)) ≡ parts_in l.plans (map fields_of l.lines);
  covered : AllByRecursion (λ p. is_covered (credits_of l.openings) p ≡ true) l.parts.items;
  before : (j : ℕ) (r : Record) → j < l.place → slice_get (map fields_of l.lines) j ≡ Some r → (are_covered (credits_of l.openings) l.plans r ≡ true) × (is_statement_header r ≡ false);
}
