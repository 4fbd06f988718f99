use Rattle.std.proofs.Common.{◌≡◌, ◌++◌, ◌<◌, map, length, Some, arith}
use Rattle.std.specs.Prelude.{option_copied, slice_get}
use Rattle.csv.specs.Records.{fields_of}
use Rattle.sms_journal.specs.Rest.{is_unsent, left_texts}
use Rattle.sms_journal.proofs.Texts.{left_more}
use Rattle.sms_journal.proofs.rest.printing.push_all_left.Goals as goal

pub loop-place-preserved : goal.loop-place-preserved
loop-place-preserved c =
    let report = map fields_of c.args.report.now in
    let place = c.loop-place.place in
    let low : place < length c.args.messages.now = omega arith in
    let there : slice_get c.as_slice.result.now place ≡ Some (is_unsent place report) = rw c.as_slice.ensures.value (c.in_ok-left.ensures place low) in
    let flag : c.flag_at-flag.result ≡ is_unsent place report = c.flag_at-flag.ensures (is_unsent place report) there in
    left_more fields_of (option_copied c.args.refs) report c.args.messages.now place c.index-messages-place.result c.loop-place.text.items c.push_left.new.text.items
    (c.args.text.now.items ++ left_texts (option_copied c.args.refs) report 0 (map fields_of c.args.messages.now)) low c.index-messages-place.is c.loop-place.invariant (rw flag at c.in_ok-push_left.ensures)
