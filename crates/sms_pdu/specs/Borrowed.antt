-- What a PDU is whose strings are borrowed.
use Rattle.std.specs.Option.{option_copied}
use Rattle.sms_pdu.specs.declared.body.Pdu.{Pdu}
use Rattle.sms_pdu.specs.declared.body.Sm.{Sm}
use Rattle.sms_pdu.specs.declared.body.Body.{Body}
use Rattle.sms_pdu.specs.declared.body.Body.TheVariants as body
use Rattle.sms_pdu.specs.declared.borrowed.PduRef.{PduRef}
use Rattle.sms_pdu.specs.declared.borrowed.SmRef.{SmRef}
use Rattle.sms_pdu.specs.declared.borrowed.BindRef.{BindRef}
use Rattle.sms_pdu.specs.declared.borrowed.BodyRef.{BodyRef}
use Rattle.sms_pdu.specs.declared.borrowed.BodyRef.TheVariants.{Bind, BindResp, Submit, Deliver, SubmitResp, DeliverResp, Unbind, UnbindResp, EnquireLink, EnquireLinkResp, GenericNack}
use Rattle.sms_pdu.specs.Layout.{Values, bind_fields}

-- the fields of a bind in their order
abbrev pub bind_values : BindRef → Values bind_fields
bind_values b = (b.system_id.now, (b.password.now, (b.system_type.now, (b.interface_version, (b.addr_ton, (b.addr_npi, (b.address_range.now, tt)))))))

abbrev pub owned_bind : BindRef → Body
owned_bind b = body.Bind b.mode b.system_id.now b.password.now b.system_type.now b.interface_version b.addr_ton b.addr_npi b.address_range.now

abbrev pub owned_sm : SmRef → Sm
owned_sm sm = record {
  service_type = sm.service_type.now;
  source_ton = sm.source_ton;
  source_npi = sm.source_npi;
  source_addr = sm.source_addr.now;
  dest_ton = sm.dest_ton;
  dest_npi = sm.dest_npi;
  dest_addr = sm.dest_addr.now;
  esm_class = sm.esm_class;
  protocol_id = sm.protocol_id;
  priority = sm.priority;
  schedule = sm.schedule.now;
  validity = sm.validity.now;
  registered = sm.registered;
  replace = sm.replace;
  data_coding = sm.data_coding;
  default_msg = sm.default_msg;
  short_message = sm.short_message.now;
  params = sm.params.now;
}

abbrev pub owned_body : BodyRef → Body
owned_body (Bind b) = owned_bind b
owned_body (BindResp mode system_id params) = body.BindResp mode (option_copied system_id) params.now
owned_body (Submit sm) = body.Submit (owned_sm sm)
owned_body (Deliver sm) = body.Deliver (owned_sm sm)
owned_body (SubmitResp message_id) = body.SubmitResp (option_copied message_id)
owned_body (DeliverResp message_id) = body.DeliverResp (option_copied message_id)
owned_body Unbind = body.Unbind
owned_body UnbindResp = body.UnbindResp
owned_body EnquireLink = body.EnquireLink
owned_body EnquireLinkResp = body.EnquireLinkResp
owned_body GenericNack = body.GenericNack

abbrev pub owned_pdu : PduRef → Pdu
owned_pdu p = record { status = p.status; number = p.number; body = owned_body p.body }
