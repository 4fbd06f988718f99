-- What is known of a PDU that is written.
use Rattle.std.specs.Prelude.{◌≡◌, List, ◌++◌, ℕ, ◌≤◌, length, true, Option, Some, None}
use Rattle.sms_pdu.specs.declared.body.Pdu.{Pdu}
use Rattle.sms_pdu.specs.declared.body.Sm.{Sm}
use Rattle.sms_pdu.specs.declared.body.Body.{Body}
use Rattle.sms_pdu.specs.declared.body.Body.TheVariants.{Bind, BindResp, Submit, Deliver, SubmitResp, DeliverResp, Unbind, UnbindResp, EnquireLink, EnquireLinkResp, GenericNack}
use Rattle.sms_pdu.specs.declared.parameter.Parameter.{Parameter}
use Rattle.sms_pdu.specs.Layout.{ParametersFit}
use Rattle.sms_pdu.specs.Grammar.{Spells}
use Rattle.sms_pdu.specs.Size.{parameters_fit}

-- octets that spell the PDU were added behind what was there
pub record Adds (p : Pdu) (old new : List ℕ) : Type 0 where
  pub octets : List ℕ
  pub spelled : Spells p octets
  pub behind : new ≡ old ++ octets

-- what has to be known before a body is written
abbrev pub SmWritable : Sm → Type 0
SmWritable sm = (length sm.short_message ≤ 254) × (parameters_fit sm.params ≡ true)

abbrev pub RespWritable : Option (List ℕ) → List Parameter → Type 0
RespWritable None params = Unit {0}
RespWritable (Some id) params = parameters_fit params ≡ true

abbrev pub Writable : Body → Type 0
Writable (Bind mode system_id password system_type interface_version addr_ton addr_npi address_range) = Unit {0}
Writable (BindResp mode system_id params) = RespWritable system_id params
Writable (Submit sm) = SmWritable sm
Writable (Deliver sm) = SmWritable sm
Writable (SubmitResp message_id) = Unit {0}
Writable (DeliverResp message_id) = Unit {0}
Writable Unbind = Unit {0}
Writable UnbindResp = Unit {0}
Writable EnquireLink = Unit {0}
Writable EnquireLinkResp = Unit {0}
Writable GenericNack = Unit {0}

-- what is known of a body that was written
abbrev pub RespFit : Option (List ℕ) → List Parameter → Type 0
RespFit None params = Unit {0}
RespFit (Some id) params = ParametersFit params

abbrev pub TagsFit : Body → Type 0
TagsFit (Bind mode system_id password system_type interface_version addr_ton addr_npi address_range) = Unit {0}
TagsFit (BindResp mode system_id params) = RespFit system_id params
TagsFit (Submit sm) = ParametersFit sm.params
TagsFit (Deliver sm) = ParametersFit sm.params
TagsFit (SubmitResp message_id) = Unit {0}
TagsFit (DeliverResp message_id) = Unit {0}
TagsFit Unbind = Unit {0}
TagsFit UnbindResp = Unit {0}
TagsFit EnquireLink = Unit {0}
TagsFit EnquireLinkResp = Unit {0}
TagsFit GenericNack = Unit {0}
