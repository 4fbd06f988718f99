-- The length of a PDU's spelling, or its first fault: fields from left to right, then the whole.
use Rattle.std.specs.Prelude.{ℕ, ◌+◌, ◌^◌, List, [], ◌∷◌, length, Bool, Option, Some, None, Result, Ok, Err, nat_lt, nat_le, ◌==◌, ◌||◌, if◌then◌else◌}
use Rattle.std.specs.List.{list_all, list_any}
use Rattle.sms_pdu.specs.declared.field.Field.{Field}
use Rattle.sms_pdu.specs.declared.field.Field.TheVariants as fields
use Rattle.sms_pdu.specs.declared.error.PduError.{PduError}
use Rattle.sms_pdu.specs.declared.error.PduError.TheVariants as errors
use Rattle.sms_pdu.specs.declared.body.Pdu.{Pdu}
use Rattle.sms_pdu.specs.declared.body.Sm.{Sm}
use Rattle.sms_pdu.specs.declared.body.Body.{Body}
use Rattle.sms_pdu.specs.declared.body.Body.TheVariants.{Bind, BindResp, Submit, Deliver, SubmitResp, DeliverResp, Unbind, UnbindResp, EnquireLink, EnquireLinkResp, GenericNack}
use Rattle.sms_pdu.specs.declared.parameter.Parameter.{Parameter}
use Rattle.sms_pdu.specs.Layout.{Kind, Number, Text, Time, Message, Row, Value, Values, bind_fields, sm_fields, parameters_spelling}
use Rattle.sms_pdu.specs.Grammar.{sm_values}
use Rattle.sms_pdu.specs.Reading.{◌>>=◌}

-- a text is shorter than its maximum, which counts its 0, and holds no 0
unfoldable pub text_size : Field → ℕ → List ℕ → Result ℕ PduError
text_size field maximum text = if nat_lt (length text) maximum then (if list_any (λ octet. octet == 0) text then Err (errors.Malformed field) else Ok (length text + 1)) else Err (errors.TooLong field)

unfoldable pub time_size : Field → List ℕ → Result ℕ PduError
time_size field text = do
  size ← text_size field 17 text
  if (size == 1) || (size == 17) then Ok size else Err (errors.Malformed field)

unfoldable pub message_size : List ℕ → Result ℕ PduError
message_size text = if nat_le (length text) 254 then Ok (length text + 1) else Err (errors.TooLong fields.ShortMessage)

abbrev pub value_size : Field → (kind : Kind) → Value kind → Result ℕ PduError
value_size field Number n = Ok 1
value_size field (Text maximum) text = text_size field maximum text
value_size field Time text = time_size field text
value_size field Message text = message_size text

-- the length with the fields' added to what stands before them
abbrev pub values_size : (rows : List Row) → Values rows → ℕ → Result ℕ PduError
values_size [] values before = Ok before
values_size (row ∷ rows) values before = value_size row.field row.kind values.0 >>= λ size. values_size rows values.1 (before + size)

abbrev pub parameters_fit : List Parameter → Bool
parameters_fit params = list_all (λ p. nat_lt (length p.value) (2 ^ 16)) params

-- no value of a parameter is too long
unfoldable pub parameters_checked : List Parameter → Result (Unit {0}) PduError
parameters_checked params = if parameters_fit params then Ok tt else Err (errors.TooLong fields.Params)

-- the length with the parameters' added, at most 70,000
unfoldable pub whole_size : ℕ → List Parameter → Result ℕ PduError
whole_size before params = if nat_le (before + length (parameters_spelling params)) 70000 then Ok (before + length (parameters_spelling params)) else Err (errors.TooLong fields.Whole)

unfoldable pub tail_size : ℕ → List Parameter → Result ℕ PduError
tail_size before params = do
  fit ← parameters_checked params
  whole_size before params

unfoldable pub sm_size : Sm → Result ℕ PduError
sm_size sm = do
  size ← values_size sm_fields (sm_values sm) 16
  tail_size size sm.params

-- a response without a body has a status other than 0, and no parameters
abbrev pub absent_size : List Parameter → Result ℕ PduError
absent_size [] = Ok 16
absent_size (p ∷ ps) = Err (errors.Malformed fields.Params)

unfoldable pub bind_resp_size : ℕ → Option (List ℕ) → List Parameter → Result ℕ PduError
bind_resp_size status None params = if status == 0 then Err (errors.Malformed fields.SystemId) else (parameters_checked params >>= λ fit. absent_size params)
bind_resp_size status (Some system_id) params = text_size fields.SystemId 16 system_id >>= λ size. tail_size (16 + size) params

unfoldable pub message_id_size : ℕ → Option (List ℕ) → Result ℕ PduError
message_id_size status None = if status == 0 then Err (errors.Malformed fields.MessageId) else Ok 16
message_id_size status (Some message_id) = text_size fields.MessageId 65 message_id >>= λ size. Ok (16 + size)

unfoldable pub bind_size : Values bind_fields → Result ℕ PduError
bind_size values = values_size bind_fields values 16

abbrev pub body_size : ℕ → Body → Result ℕ PduError
body_size status (Bind mode system_id password system_type interface_version addr_ton addr_npi address_range) =
    bind_size (system_id, (password, (system_type, (interface_version, (addr_ton, (addr_npi, (address_range, tt)))))))
body_size status (BindResp mode system_id params) = bind_resp_size status system_id params
body_size status (Submit sm) = sm_size sm
body_size status (Deliver sm) = sm_size sm
body_size status (SubmitResp message_id) = message_id_size status message_id
body_size status (DeliverResp message_id) = message_id_size status message_id
body_size status Unbind = Ok 16
body_size status UnbindResp = Ok 16
body_size status EnquireLink = Ok 16
body_size status EnquireLinkResp = Ok 16
body_size status GenericNack = Ok 16

-- the length of the PDU's spelling, or the PDU's first fault
abbrev pub size_of : Pdu → Result ℕ PduError
size_of p = body_size p.status p.body
