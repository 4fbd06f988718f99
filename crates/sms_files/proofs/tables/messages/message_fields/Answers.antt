use Rattle.std.proofs.Common.{arith, length, ◌≡◌}
use Rattle.csv.specs.Records.{fields_of}
use Rattle.sms_files.proofs.MessageRecords.{four-texts, no-gap}
use Rattle.sms_files.proofs.tables.messages.message_fields.Goals as goal

pub returns : goal.returns
returns c =
    let r = fields_of c.args.record.now in
    let four : length r ≡ 4 = omega (arith, c.len.ensures, c.if-len-ne-FIELDS.false) in
    let a = c.in-Ok.account.now in
    let b = c.in-Ok-text_at.source.now in
    let d = c.in-Ok-text_at-2.destination.now in
    let e = c.in-Ok-text_at-3.text.now in (
      no-gap r a b d e four c.in-Ok.ensures c.in-Ok-text_at.ensures c.in-Ok-text_at-2.ensures c.in-Ok-text_at-3.ensures,
      four-texts r a b d e four c.in-Ok.ensures c.in-Ok-text_at.ensures c.in-Ok-text_at-2.ensures c.in-Ok-text_at-3.ensures,
    )
