use Rattle.std.proofs.Common.{◌<◌, ℕ}
use Rattle.std.specs.Prelude.{slice_get}
use Rattle.csv.specs.Records.{fields_of}
use Rattle.sms_journal.proofs.Lefts.{HasFlag}
use Rattle.sms_journal.proofs.rest.left.left_by.Given as goal

abbrev pub invariant-loop-record : goal.invariant-loop-record
invariant-loop-record l = (i : ℕ) → i < l.fn.count → HasFlag fields_of l.report l.record-index i (slice_get l.left.items i)
