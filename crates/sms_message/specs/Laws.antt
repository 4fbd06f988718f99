-- What holds of each submit_sm, whatever is asked for.
use Rattle.std.specs.Prelude.{◌≡◌, Bool, []}
use Rattle.sms_pdu.specs.declared.body.Sm.{Sm}
use Rattle.sms_segment.specs.declared.part.Part.{Part}
use Rattle.sms_segment.specs.Part.{short_message, esm_class, data_coding}
use Rattle.sms_message.specs.declared.rules.Rules.{Rules}
use Rattle.sms_message.specs.Addresses.{Address}
use Rattle.sms_message.specs.Fields.{HasNoFields}
use Rattle.sms_message.specs.Submits.{registered, submitted}

-- a part's addresses and user data, and whether a receipt of the delivery is asked for; all else is empty or 0
abbrev pub plain : Bool → Address → Address → Part → Sm
plain receipts source dest part = record {
  service_type = [];
  source_ton = source.ton;
  source_npi = source.npi;
  source_addr = source.octets;
  dest_ton = dest.ton;
  dest_npi = dest.npi;
  dest_addr = dest.octets;
  esm_class = esm_class part.place;
  protocol_id = 0;
  priority = 0;
  schedule = [];
  validity = [];
  registered = registered receipts;
  replace = 0;
  data_coding = data_coding part.coding;
  default_msg = 0;
  short_message = short_message part;
  params = [];
}

-- where no field is asked for, a submit_sm has no other
abbrev pub ArePlain : Type 0
ArePlain = (rules : Rules) (source dest : Address) (part : Part) → HasNoFields rules.fields → submitted rules source dest part ≡ plain rules.receipts source dest part
