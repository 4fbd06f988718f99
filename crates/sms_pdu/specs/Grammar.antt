-- The grammar of PDUs: which octets spell a PDU (SMPP 3.4 chapters 3 and 4).
use Rattle.std.specs.Prelude.{◌≡◌, ◌≢◌, ℕ, ◌<◌, ◌≤◌, ◌^◌, List, [], ◌++◌, length, Option, Some, None}
use Rattle.std.specs.Int.{w32, to_be_bytes}
use Rattle.sms_pdu.specs.declared.command.Mode.{Mode}
use Rattle.sms_pdu.specs.declared.command.Mode.TheVariants.{Transmitter, Transceiver}
use Rattle.sms_pdu.specs.declared.command.Command.{Command}
use Rattle.sms_pdu.specs.declared.command.Command.TheVariants as command
use Rattle.sms_pdu.specs.declared.body.Pdu.{Pdu}
use Rattle.sms_pdu.specs.declared.body.Sm.{Sm}
use Rattle.sms_pdu.specs.declared.body.Body.{Body}
use Rattle.sms_pdu.specs.declared.body.Body.TheVariants.{Bind, BindResp, Submit, Deliver, SubmitResp, DeliverResp, Unbind, UnbindResp, EnquireLink, EnquireLinkResp, GenericNack}
use Rattle.sms_pdu.specs.declared.parameter.Parameter.{Parameter}
use Rattle.sms_pdu.specs.Command.{id_of}
use Rattle.sms_pdu.specs.Layout.{Values, spellings, AllFit, bind_fields, bind_resp_fields, sm_fields, sm_resp_fields, parameters_spelling, ParametersFit}

-- the fields of a message in their order
abbrev pub sm_values : Sm → Values sm_fields
sm_values sm = (sm.service_type, (sm.source_ton, (sm.source_npi, (sm.source_addr, (sm.dest_ton, (sm.dest_npi, (sm.dest_addr, (sm.esm_class, (sm.protocol_id, (sm.priority, (sm.schedule, (sm.validity, (sm.registered, (sm.replace, (sm.data_coding, (sm.default_msg, (sm.short_message, tt)))))))))))))))))

abbrev pub sm_spelling : Sm → List ℕ
sm_spelling sm = spellings sm_fields (sm_values sm) ++ parameters_spelling sm.params

pub record SmFits (sm : Sm) : Type 0 where
  pub fields : AllFit sm_fields (sm_values sm)
  pub params : ParametersFit sm.params

abbrev pub bind_command : Mode → Command
bind_command Transmitter = command.BindTransmitter
bind_command Transceiver = command.BindTransceiver

abbrev pub bind_resp_command : Mode → Command
bind_resp_command Transmitter = command.BindTransmitterResp
bind_resp_command Transceiver = command.BindTransceiverResp

-- the command of a body
abbrev pub command_in : Body → Command
command_in (Bind mode system_id password system_type interface_version addr_ton addr_npi address_range) = bind_command mode
command_in (BindResp mode system_id params) = bind_resp_command mode
command_in (Submit sm) = command.SubmitSm
command_in (Deliver sm) = command.DeliverSm
command_in (SubmitResp message_id) = command.SubmitSmResp
command_in (DeliverResp message_id) = command.DeliverSmResp
command_in Unbind = command.Unbind
command_in UnbindResp = command.UnbindResp
command_in EnquireLink = command.EnquireLink
command_in EnquireLinkResp = command.EnquireLinkResp
command_in GenericNack = command.GenericNack

-- a response without a body has no octets
abbrev pub bind_resp_spelling : Option (List ℕ) → List Parameter → List ℕ
bind_resp_spelling None params = []
bind_resp_spelling (Some system_id) params = spellings bind_resp_fields (system_id, tt) ++ parameters_spelling params

abbrev pub sm_resp_spelling : Option (List ℕ) → List ℕ
sm_resp_spelling None = []
sm_resp_spelling (Some message_id) = spellings sm_resp_fields (message_id, tt)

-- the octets of a body
abbrev pub body_spelling : Body → List ℕ
body_spelling (Bind mode system_id password system_type interface_version addr_ton addr_npi address_range) =
    spellings bind_fields (system_id, (password, (system_type, (interface_version, (addr_ton, (addr_npi, (address_range, tt)))))))
body_spelling (BindResp mode system_id params) = bind_resp_spelling system_id params
body_spelling (Submit sm) = sm_spelling sm
body_spelling (Deliver sm) = sm_spelling sm
body_spelling (SubmitResp message_id) = sm_resp_spelling message_id
body_spelling (DeliverResp message_id) = sm_resp_spelling message_id
body_spelling Unbind = []
body_spelling UnbindResp = []
body_spelling EnquireLink = []
body_spelling EnquireLinkResp = []
body_spelling GenericNack = []

-- a response without a body has a status other than 0, and no parameters
abbrev pub BindRespFits : ℕ → Option (List ℕ) → List Parameter → Type 0
BindRespFits status None params = (status ≢ 0) × (params ≡ [])
BindRespFits status (Some system_id) params = AllFit bind_resp_fields (system_id, tt) × ParametersFit params

abbrev pub SmRespFits : ℕ → Option (List ℕ) → Type 0
SmRespFits status None = status ≢ 0
SmRespFits status (Some message_id) = AllFit sm_resp_fields (message_id, tt)

-- the bodies that a PDU of this status may have
abbrev pub BodyFits : ℕ → Body → Type 0
BodyFits status (Bind mode system_id password system_type interface_version addr_ton addr_npi address_range) =
    AllFit bind_fields (system_id, (password, (system_type, (interface_version, (addr_ton, (addr_npi, (address_range, tt)))))))
BodyFits status (BindResp mode system_id params) = BindRespFits status system_id params
BodyFits status (Submit sm) = SmFits sm
BodyFits status (Deliver sm) = SmFits sm
BodyFits status (SubmitResp message_id) = SmRespFits status message_id
BodyFits status (DeliverResp message_id) = SmRespFits status message_id
BodyFits status Unbind = Unit {0}
BodyFits status UnbindResp = Unit {0}
BodyFits status EnquireLink = Unit {0}
BodyFits status EnquireLinkResp = Unit {0}
BodyFits status GenericNack = Unit {0}

-- the four numbers of a header, and the body
abbrev pub spelling_of : ℕ → Pdu → List ℕ
spelling_of len p = to_be_bytes w32 len ++ to_be_bytes w32 (id_of (command_in p.body)) ++ to_be_bytes w32 p.status ++ to_be_bytes w32 p.number ++ body_spelling p.body

-- these octets spell the PDU
pub record Spells (p : Pdu) (octets : List ℕ) : Type 0 where
  pub spelled : octets ≡ spelling_of (length octets) p
  pub most : length octets ≤ 70000
  pub status : p.status < 2 ^ 32
  pub number : p.number < 2 ^ 32
  pub fits : BodyFits p.status p.body

-- some octets spell the PDU
abbrev pub IsLawful : Pdu → Type 0
IsLawful p = (octets : List ℕ) × Spells p octets
