use Rattle.std.proofs.Common.{arith}
use Rattle.std.specs.Prelude.{slice_get}
use Rattle.csv.specs.Records.{fields_of}
use Rattle.sms_journal.proofs.Lefts.{first_flag, last_flag, next_flag}
use Rattle.sms_journal.proofs.rest.left.left_by.Goals as goal

pub loop-record-init : goal.loop-record-init
loop-record-init c = λ i low. first_flag fields_of c.args.report.now i (slice_get c.in_ok-left.left.items i) (c.in_ok-left.ensures i low)

pub loop-record-preserved : goal.loop-record-preserved
loop-record-preserved c = λ i low.
    next_flag fields_of c.args.report.now c.loop-record.record-index c.record-item.result i (slice_get c.loop-record.left.items i) (slice_get c.pass.new.left.items i) (omega arith) c.record-item.is
    (c.loop-record.invariant i low) (c.pass.ensures i)

pub returns : goal.returns
returns c = λ i low. last_flag fields_of c.args.report.now c.loop-record.record-index i (slice_get c.loop-record.left.items i) (omega arith) (c.loop-record.invariant i low)
