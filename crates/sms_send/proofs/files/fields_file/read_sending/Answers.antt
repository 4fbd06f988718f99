use Rattle.std.proofs.Common.{inl, inr, subst, sym}
use Rattle.sms_files.specs.declared.config.Config.{Config}
use Rattle.sms_send.specs.Words.{bytes_of}
use Rattle.sms_send.specs.FieldFiles.{AreFieldsAt}
use Rattle.sms_send.proofs.FieldFiles.{config_fielded}
use Rattle.sms_send.proofs.files.fields_file.read_sending.Goals as goal

pub returns-in-Ok-read_fields-clause-read : goal.returns-in-Ok-read_fields-clause-read
returns-in-Ok-read_fields-clause-read g c =
    config_fielded (g.R.InputFiles.finds c.args.rt.now) _ c.in-Ok.read c.in-Ok-read_fields.fields _ c.with_fields.ensures c.in-Ok.ensures.read

pub returns-in-Ok-read_fields-clause-fields : goal.returns-in-Ok-read_fields-clause-fields
returns-in-Ok-read_fields-clause-fields g c =
    subst (λ (k : Config). AreFieldsAt (g.R.InputFiles.finds c.args.rt.now) (bytes_of c.args.fields.now) k.fields) (sym c.with_fields.ensures) c.in-Ok-read_fields.ensures.read

pub returns-in-Err-clause-refused : goal.returns-in-Err-clause-refused
returns-in-Err-clause-refused g c = inl c.in-Err.ensures.refused

pub returns-in-Err-read_fields-clause-refused : goal.returns-in-Err-read_fields-clause-refused
returns-in-Err-read_fields-clause-refused g c = inr c.in-Err-read_fields.ensures.refused
