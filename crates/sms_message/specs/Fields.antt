-- The fields of a submit_sm that a sending asks for.
use Rattle.std.specs.Prelude.{◌≡◌, false, [], None}
use Rattle.sms_message.specs.declared.fields.Fields.{Fields}

-- none of them is asked for
pub record HasNoFields (f : Fields) : Type 0 where
  pub service_type : f.service_type ≡ []
  pub source_ton : f.source_ton ≡ None
  pub source_npi : f.source_npi ≡ None
  pub dest_ton : f.dest_ton ≡ None
  pub dest_npi : f.dest_npi ≡ None
  pub protocol_id : f.protocol_id ≡ 0
  pub priority : f.priority ≡ 0
  pub schedule : f.schedule ≡ []
  pub validity : f.validity ≡ []
  pub registered : f.registered ≡ None
  pub replace : f.replace ≡ false
  pub params : f.params ≡ []
