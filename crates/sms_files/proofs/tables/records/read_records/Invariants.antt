-- The records that were read are good and say what was kept, and the others are left.
use Rattle.std.proofs.Common.{◌≡◌, ◌+◌, List, length, Some}
use Rattle.sms_files.specs.Fields.{Record}
use Rattle.sms_files.specs.Records.{ReadsAll, record_fault, records_left}
use Rattle.sms_files.proofs.Runs.{ReadSo}
use Rattle.sms_files.proofs.tables.records.read_records.Given as goal

abbrev pub invariant-loop-before : goal.invariant-loop-before
invariant-loop-before g l = record {
  reads : ReadsAll l.reader;
  count : length l.rows.items + 1 ≡ l.before;
  rest : (left : List Record) → records_left g.R.Read.remaining l.initial.reader ≡ Some left
      → ReadSo g.T.FromRecord.Says (record_fault g.T.FromRecord.flaw l.most 1 left) (record_fault g.T.FromRecord.flaw l.most l.before) left l.rows.items (records_left g.R.Read.remaining l.reader);
}
