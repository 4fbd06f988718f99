use Rattle.std.proofs.Common.{arith, length, ◌≡◌}
use Rattle.csv.specs.Records.{fields_of}
use Rattle.sms_files.proofs.RefRecords.{five-texts, no-ref-gap}
use Rattle.sms_files.proofs.refs.ref_fields.Goals as goal

pub returns : goal.returns
returns c =
    let r = fields_of c.args.record.now in
    let five : length r ≡ 5 = omega (arith, c.len.ensures, c.if-len-ne-FIELDS.false) in
    let v = c.in-Ok.account.now in
    let w = c.in-Ok-text_at.source.now in
    let x = c.in-Ok-text_at-2.destination.now in
    let y = c.in-Ok-text_at-3.text.now in
    let z = c.in-Ok-text_at-4.reference.now in (
      no-ref-gap r v w x y z five c.in-Ok.ensures c.in-Ok-text_at.ensures c.in-Ok-text_at-2.ensures c.in-Ok-text_at-3.ensures c.in-Ok-text_at-4.ensures,
      five-texts r v w x y z five c.in-Ok.ensures c.in-Ok-text_at.ensures c.in-Ok-text_at-2.ensures c.in-Ok-text_at-3.ensures c.in-Ok-text_at-4.ensures,
    )
