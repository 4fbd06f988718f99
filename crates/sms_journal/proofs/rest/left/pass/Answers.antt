use Rattle.std.proofs.Common.{◌≡◌, Some, arith, rules}
use Rattle.std.specs.Prelude.{false}
use Rattle.csv.specs.Records.{fields_of}
use Rattle.sms_journal.specs.RecordLines.{is_left, line_in}
use Rattle.sms_journal.proofs.Lefts.{none_passed, one_passed}
use Rattle.sms_journal.proofs.rest.left.pass.Goals as goal

pub returns-then-place-len : goal.returns-then-place-len
returns-then-place-len c = λ i.
    let is : line_in (fields_of c.args.record.now) ≡ Some c.in-Some.line = search rules in
    let out : is_left c.in-Some.line ≡ false = search rules in
    rw is (one_passed c.args.left.now.items i c.in-Some.line out (omega arith))

pub returns-else-place-len : goal.returns-else-place-len
returns-else-place-len c = λ i.
    let is : line_in (fields_of c.args.record.now) ≡ Some c.in-Some.line = search rules in
    rw is (none_passed c.args.left.now.items i c.in-Some.line (omega arith))
