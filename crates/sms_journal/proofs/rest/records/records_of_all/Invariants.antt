-- The records that were read, and the others are left.
use Rattle.std.proofs.Common.{◌≡◌, List, Some, vec_len}
use Rattle.csv.specs.Records.{fields_of}
use Rattle.sms_files.specs.Fields.{Record}
use Rattle.sms_files.specs.Records.{ReadsAll, reader_left}
use Rattle.sms_journal.proofs.Taken.{HasRead}
use Rattle.sms_journal.proofs.rest.records.records_of_all.Given as goal

abbrev pub invariant-loop : goal.invariant-loop
invariant-loop g l = record {
  reads : ReadsAll l.reader;
  count : vec_len l.records ≡ l.counter;
  rest : (left : List Record) → reader_left g.R.Read.remaining l.initial.reader ≡ Some left → HasRead fields_of left l.records.items (reader_left g.R.Read.remaining l.reader);
}
