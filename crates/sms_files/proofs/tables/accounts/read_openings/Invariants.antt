-- The records that were read are accounts of different names, and the others are left.
use Rattle.std.proofs.Common.{◌≡◌, ◌+◌, [], List, length, Some}
use Rattle.sms_book.specs.Openings.{names_of}
use Rattle.sms_files.specs.Accounts.{SaysAccount, rest_fault}
use Rattle.sms_files.specs.Fields.{Record}
use Rattle.sms_files.specs.Records.{ReadsAll, records_left}
use Rattle.sms_files.proofs.Runs.{ReadSo}
use Rattle.sms_files.proofs.tables.accounts.read_openings.Given as goal

abbrev pub invariant-loop-before : goal.invariant-loop-before
invariant-loop-before g l = record {
  reads : ReadsAll l.reader;
  count : length l.openings.items + 1 ≡ l.before;
  rest : (left : List Record) → records_left g.R.Read.remaining l.initial.reader ≡ Some left
      → ReadSo SaysAccount (rest_fault [] 1 left) (rest_fault (names_of l.openings.items) l.before) left l.openings.items (records_left g.R.Read.remaining l.reader);
}
