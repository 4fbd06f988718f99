use Rattle.std.proofs.Common.{ap, sym, refl, Some, ◌∙◌}
use Rattle.csv.specs.Records.{field_at, fields_of}
use Rattle.sms_files.proofs.MessageRecords.{no-text, some-text}
use Rattle.sms_files.proofs.tables.field.text_at.Goals as goal

pub returns-in-Ok : goal.returns-in-Ok
returns-in-Ok c =
    some-text (field_at (fields_of c.args.record.now) c.args.place) c.in-Some.field.now (sym c.in-Some.ensures.value) c.in-Ok.ensures.cases.1
    ∙ sym (ap Some c.in-Ok.ensures.cases.0)

pub returns-in-Err : goal.returns-in-Err
returns-in-Err c =
    (no-text (field_at (fields_of c.args.record.now) c.args.place) c.in-Some.field.now (sym c.in-Some.ensures.value) c.in-Err.ensures.cases.0, refl)
