use Rattle.std.proofs.Common.{◌≡◌, ℕ, length, Some}
use Rattle.std.specs.Prelude.{slice_get}
use Rattle.sms_files.specs.declared.report.quote.total.Total.{Total}
use Rattle.sms_files.specs.Totals.{nothing}
use Rattle.sms_files.proofs.report.quote.total.no_totals.Given as goal

abbrev pub invariant-loop : goal.invariant-loop
invariant-loop l = record {
  length : length l.totals.items ≡ l.counter;
  each : (i : ℕ) (t : Total) → slice_get l.totals.items i ≡ Some t → t ≡ nothing;
}
