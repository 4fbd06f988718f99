use Rattle.std.proofs.Common.{◌≡◌, ◌++◌, arith}
use Rattle.std.specs.Prelude.{flat_map, string_bytes}
use Rattle.sms_journal.specs.Bill.{billed, billed_parts, line_in}
use Rattle.sms_journal.specs.Sums.{parts_in}
use Rattle.sms_journal.proofs.Bills.{message_more, messages_end}
use Rattle.sms_journal.proofs.bill.printing.write_messages.Goals as goal

pub loop-place-preserved : goal.loop-place-preserved
loop-place-preserved c =
    let s = c.args.source.now in
    let grows : string_bytes c.write_message.new.text ≡ string_bytes c.loop-place.text ++ flat_map (line_in s.listing) (billed_parts s.openings.now s.times.now s.notes.now c.index-messages-place.result 1 (parts_in c.index-ends-place.result.result)) = c.in_ok-write_message.ensures in
    message_more s.listing s.openings.now s.times.now s.notes.now c.args.messages.now c.args.ends.now c.loop-place.place c.index-messages-place.result c.index-ends-place.result (string_bytes c.loop-place.text)
    (string_bytes c.write_message.new.text) (string_bytes c.args.text.now ++ flat_map (line_in s.listing) (billed s.openings.now s.times.now s.notes.now c.args.messages.now c.args.ends.now))
    (omega arith) (omega arith) c.index-messages-place.is c.index-ends-place.is c.loop-place.invariant grows

pub returns : goal.returns
returns c =
    let s = c.args.source.now in
    messages_end s.listing s.openings.now s.times.now s.notes.now c.args.messages.now c.args.ends.now c.loop-place.place (string_bytes c.loop-place.text)
    (string_bytes c.args.text.now ++ flat_map (line_in s.listing) (billed s.openings.now s.times.now s.notes.now c.args.messages.now c.args.ends.now))
    (omega arith) c.loop-place.invariant
