use Rattle.std.specs.Prelude.{if◌then◌else◌, unwrap_or}
use Rattle.sms_segment.specs.Part.{short_message, esm_class, data_coding}
use Rattle.sms_message.specs.Submits.{registered}
use Rattle.sms_message.proofs.laws.no_fields_are_plain.Goals as goal

pub returns : goal.returns
returns c rules source dest part none = λ i. record {
  service_type = none.service_type i;
  source_ton = unwrap_or (none.source_ton i) source.ton;
  source_npi = unwrap_or (none.source_npi i) source.npi;
  source_addr = source.octets;
  dest_ton = unwrap_or (none.dest_ton i) dest.ton;
  dest_npi = unwrap_or (none.dest_npi i) dest.npi;
  dest_addr = dest.octets;
  esm_class = esm_class part.place;
  protocol_id = none.protocol_id i;
  priority = none.priority i;
  schedule = none.schedule i;
  validity = none.validity i;
  registered = unwrap_or (none.registered i) (registered rules.receipts);
  replace = if none.replace i then 1 else 0;
  data_coding = data_coding part.coding;
  default_msg = 0;
  short_message = short_message part;
  params = none.params i;
}
