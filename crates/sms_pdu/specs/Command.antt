-- The command_ids (SMPP 3.4 5.1.2.1).
use Rattle.std.specs.Prelude.{ℕ, List, [], ◌∷◌, Option, Bool, ◌==◌, nat_le, find}
use Rattle.sms_pdu.specs.declared.command.Command.{Command}
use Rattle.sms_pdu.specs.declared.command.Command.TheVariants.{GenericNack, BindTransmitter, BindTransmitterResp, SubmitSm, SubmitSmResp, DeliverSm, DeliverSmResp, Unbind, UnbindResp, BindTransceiver, BindTransceiverResp, EnquireLink, EnquireLinkResp}

-- the table of ids; a response's is its request's with the top bit set
abbrev pub id_of : Command → ℕ
id_of BindTransmitter = 0x00000002
id_of BindTransmitterResp = 0x80000002
id_of SubmitSm = 0x00000004
id_of SubmitSmResp = 0x80000004
id_of DeliverSm = 0x00000005
id_of DeliverSmResp = 0x80000005
id_of Unbind = 0x00000006
id_of UnbindResp = 0x80000006
id_of BindTransceiver = 0x00000009
id_of BindTransceiverResp = 0x80000009
id_of EnquireLink = 0x00000015
id_of EnquireLinkResp = 0x80000015
id_of GenericNack = 0x80000000

-- every command
abbrev pub commands : List Command
commands = BindTransmitter ∷ BindTransmitterResp ∷ SubmitSm ∷ SubmitSmResp ∷ DeliverSm ∷ DeliverSmResp ∷ Unbind ∷ UnbindResp ∷ BindTransceiver ∷ BindTransceiverResp ∷ EnquireLink ∷ EnquireLinkResp ∷ GenericNack ∷ []

-- the command that has this id
abbrev pub command_of : ℕ → Option Command
command_of id = find (λ command. id_of command == id) commands

-- alert_notification, a request whose body is not read here (4.12.1)
abbrev pub alert_notification : ℕ
alert_notification = 0x00000102

-- the command_id of a response has the top bit
abbrev pub is_response : ℕ → Bool
is_response id = nat_le 0x80000000 id
