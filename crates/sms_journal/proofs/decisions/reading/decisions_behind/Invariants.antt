use Rattle.std.proofs.Common.{◌≡◌, map, take}
use Rattle.std.specs.Prelude.{vec_len}
use Rattle.csv.specs.Records.{fields_of}
use Rattle.sms_journal.specs.Decided.{AreDecisionsBehind}
use Rattle.sms_journal.proofs.decisions.reading.decisions_behind.Given as goal

abbrev pub invariant-loop-record : goal.invariant-loop-record
invariant-loop-record l = record {
  said : AreDecisionsBehind l.run l.name (map fields_of (take l.record-index l.records)) l.decisions.items;
  count : vec_len l.decisions ≡ l.record-index;
}
