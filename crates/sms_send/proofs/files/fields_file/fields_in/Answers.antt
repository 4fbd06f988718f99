use Rattle.std.proofs.Common.{◌≡◌, inr, subst, ℕ, List}
use Rattle.sms_files.specs.SubmitFields.{IsFields}
use Rattle.sms_send.specs.FieldFiles.{IsFieldsFault}
use Rattle.sms_send.specs.Opened.{OfFile}
use Rattle.sms_send.proofs.FieldFiles.{no_octets}
use Rattle.sms_send.proofs.Sendings.{beside}
use Rattle.sms_send.proofs.files.fields_file.fields_in.Goals as goal

pub returns-in-Ok-fields_of-clause-read : goal.returns-in-Ok-fields_of-clause-read
returns-in-Ok-fields_of-clause-read g c =
    let finds = g.R.InputFiles.finds c.args.rt.now in
    let are = subst (λ (n : List ℕ). OfFile finds n (λ bytes. c.in-Ok-octets_of.octets.items ≡ bytes)) c.in-Ok.ensures.ok c.in-Ok-octets_of.ensures.octets in
    beside finds c.args.name.now c.in-Ok-octets_of.octets.items c.as_slice.result.now (λ o. IsFields o c.in-Ok-fields_of.fields) are c.as_slice.ensures.value c.in-Ok-fields_of.ensures.fields

pub returns-in-Err-clause-refused : goal.returns-in-Err-clause-refused
returns-in-Err-clause-refused g c =
    no_octets (g.R.InputFiles.finds c.args.rt.now) c.args.name.now c.in-Ok.text c.in-Err.fault c.in-Ok.ensures.ok c.in-Err.ensures.refused

pub returns-clause-refused : goal.returns-clause-refused
returns-clause-refused g c =
    let finds = g.R.InputFiles.finds c.args.rt.now in
    let are = subst (λ (n : List ℕ). OfFile finds n (λ bytes. c.in-Ok-octets_of.octets.items ≡ bytes)) c.in-Ok.ensures.ok c.in-Ok-octets_of.ensures.octets in
    inr (inr (beside finds c.args.name.now c.in-Ok-octets_of.octets.items c.as_slice.result.now (λ o. IsFieldsFault o c.fault_of_fields.result) are c.as_slice.ensures.value (c.in-Err-fields_of.fault, c.in-Err-fields_of.ensures.refused, c.fault_of_fields.ensures)))
