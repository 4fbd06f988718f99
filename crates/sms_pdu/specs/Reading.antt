-- Reading from left to right, with the first fault that is met.
use Rattle.std.specs.Prelude.{◌≡◌, ◌≢◌, IsSome, ℕ, zero, suc, ◌+◌, List, [], ◌∷◌, length, slice_index, take, drop, position, Bool, Option, Some, None, Result, Ok, Err, nat_lt, nat_le, ◌==◌, ◌&&◌, ◌||◌, if◌then◌else◌}
use Rattle.std.specs.Borrow.{Bor}
use Rattle.std.specs.Int.{w16, from_be_bytes}
use Rattle.sms_pdu.specs.declared.field.Field.{Field}
use Rattle.sms_pdu.specs.declared.field.Field.TheVariants as fields
use Rattle.sms_pdu.specs.declared.error.PduError.{PduError}
use Rattle.sms_pdu.specs.declared.error.PduError.TheVariants as errors
use Rattle.sms_pdu.specs.declared.command.Mode.{Mode}
use Rattle.sms_pdu.specs.declared.command.Mode.TheVariants.{Transmitter, Transceiver}
use Rattle.sms_pdu.specs.declared.command.Command.{Command}
use Rattle.sms_pdu.specs.declared.command.Command.TheVariants as command
use Rattle.sms_pdu.specs.declared.body.Pdu.{Pdu}
use Rattle.sms_pdu.specs.declared.body.Sm.{Sm}
use Rattle.sms_pdu.specs.declared.body.Body.{Body}
use Rattle.sms_pdu.specs.declared.body.Body.TheVariants as body
use Rattle.sms_pdu.specs.declared.parameter.Parameter.{Parameter}
use Rattle.sms_pdu.specs.declared.header.Header.{Header}
use Rattle.sms_pdu.specs.Header.{number_at, header_at_front}
use Rattle.sms_pdu.specs.Command.{command_of}
use Rattle.sms_pdu.specs.Layout.{Kind, Number, Text, Time, Message, Row, Value, Values, bind_fields, bind_resp_fields, sm_fields, sm_resp_fields}

infixl 10 ◌>>=◌
abbrev pub ◌>>=◌ : {A B : Type 0} → Result A PduError → (A → Result B PduError) → Result B PduError
(Ok x) >>= f = f x
(Err e) >>= f = Err e

-- What a function returned, seen by view, is what was told.
abbrev pub Says : {X Y : Type 0} → (X → Y) → Result X PduError → Result Y PduError → Type 0
Says view (Ok x) told = told ≡ Ok (view x)
Says view (Err e) told = told ≡ Err e

-- What a function returned, seen by view, is what was told; a value of which `takes` holds may be missing for want of memory.
abbrev pub GivesBut : {X Y : Type 0} → (Y → Type 0) → (X → Y) → Result X PduError → Result Y PduError → Type 0
GivesBut takes view (Ok x) told = told ≡ Ok (view x)
GivesBut takes view (Err e) (Ok y) = (e ≡ errors.OutOfMemory) × takes y
GivesBut takes view (Err e) (Err f) = e ≡ f

-- The same, where each value takes memory.
abbrev pub Gives : {X Y : Type 0} → (X → Y) → Result X PduError → Result Y PduError → Type 0
Gives view result told = GivesBut (λ y. Unit {0}) view result told

-- What is read, seen by view, of what is left where no field before it had a fault. The first fault stays, and what is read of it is none.
abbrev pub ReadsOn : {X Y : Type 0} → (X → Y) → Y → (List ℕ → Result (Y × List ℕ) PduError) → Result (Bor (List ℕ)) PduError → X × Result (Bor (List ℕ)) PduError → Type 0
ReadsOn view none read (Ok octets) (x, Ok rest) = read octets.now ≡ Ok (view x, rest.now)
ReadsOn view none read (Ok octets) (x, Err e) = (read octets.now ≡ Err e) × (view x ≡ none)
ReadsOn view none read (Err e) (x, rest) = (rest ≡ Err e) × (view x ≡ none)

-- A field is a value and the octets after it.
unfoldable pub number_octet_at : Field → List ℕ → Result (ℕ × List ℕ) PduError
number_octet_at field octets = if length octets == 0 then Err (errors.Malformed field) else Ok (slice_index octets 0, drop 1 octets)

-- the octets before a 0 at this place, or what is wrong where there is none
abbrev pub text_before : Option ℕ → Field → ℕ → List ℕ → Result (List ℕ × List ℕ) PduError
text_before None field maximum octets = if nat_le maximum (length octets) then Err (errors.TooLong field) else Err (errors.Malformed field)
text_before (Some len) field maximum octets = Ok (take len octets, drop (len + 1) octets)

-- the 0 has to come among the first octets, as many as the maximum
unfoldable pub text_at : Field → ℕ → List ℕ → Result (List ℕ × List ℕ) PduError
text_at field maximum octets = text_before (position (λ octet. octet == 0) (take maximum octets)) field maximum octets

unfoldable pub time_at : Field → List ℕ → Result (List ℕ × List ℕ) PduError
time_at field octets = do
  text ← text_at field 17 octets
  if (length text.0 == 0) || (length text.0 == 16) then Ok text else Err (errors.Malformed field)

unfoldable pub message_at : List ℕ → Result (List ℕ × List ℕ) PduError
message_at octets = do
  len ← number_octet_at fields.SmLength octets
  if nat_lt 254 len.0 then Err (errors.TooLong fields.ShortMessage) else (if nat_lt (length len.1) len.0 then Err (errors.Malformed fields.ShortMessage) else Ok (take len.0 len.1, drop len.0 len.1))

abbrev pub value_at : Field → (kind : Kind) → List ℕ → Result (Value kind × List ℕ) PduError
value_at field Number octets = number_octet_at field octets
value_at field (Text maximum) octets = text_at field maximum octets
value_at field Time octets = time_at field octets
value_at field Message octets = message_at octets

-- the values of a body's fields, and the octets after them
abbrev pub values_at : (rows : List Row) → List ℕ → Result (Values rows × List ℕ) PduError
values_at [] octets = Ok (tt, octets)
values_at (row ∷ rows) octets = value_at row.field row.kind octets >>= λ first. values_at rows first.1 >>= λ others. Ok ((first.0, others.0), others.1)

-- ---- parameters

-- a value of so many octets
abbrev pub valued : ℕ → ℕ → List ℕ → Result (Parameter × List ℕ) PduError
valued tag len octets = if nat_lt (length octets) len then Err (errors.Malformed fields.Params) else Ok (record { tag = tag; value = take len octets }, drop len octets)

unfoldable pub parameter_at : List ℕ → Result (Parameter × List ℕ) PduError
parameter_at octets =
    if nat_lt (length octets) 4 then Err (errors.Malformed fields.Params)
    else valued (from_be_bytes w16 (take 2 octets)) (from_be_bytes w16 (take 2 (drop 2 octets))) (drop 4 octets)

-- at most so many parameters, to the end of the octets
unfoldable pub parameters_within : ℕ → List ℕ → Result (List Parameter) PduError
parameters_within n [] = Ok []
parameters_within zero (octet ∷ octets) = Err (errors.Malformed fields.Params)
parameters_within (suc n) (octet ∷ octets) = parameter_at (octet ∷ octets) >>= λ first. parameters_within n first.1 >>= λ others. Ok (first.0 ∷ others)

-- each parameter takes four octets and more, so there are no more of them than octets
abbrev pub parameters_at : List ℕ → Result (List Parameter) PduError
parameters_at octets = parameters_within (length octets) octets

-- how many they are
abbrev pub parameter_count : List ℕ → Result ℕ PduError
parameter_count octets = parameters_at octets >>= λ params. Ok (length params)

-- ---- bodies

-- nothing is left
abbrev pub ended : List ℕ → Result (Unit {0}) PduError
ended octets = if length octets == 0 then Ok tt else Err (errors.Malformed fields.Rest)

abbrev pub bind_of : Mode → Values bind_fields → Body
bind_of mode v = body.Bind mode v.0 v.1.0 v.1.1.0 v.1.1.1.0 v.1.1.1.1.0 v.1.1.1.1.1.0 v.1.1.1.1.1.1.0

abbrev pub sm_of : Values sm_fields → List Parameter → Sm
sm_of v params = record {
  service_type = v.0;
  source_ton = v.1.0;
  source_npi = v.1.1.0;
  source_addr = v.1.1.1.0;
  dest_ton = v.1.1.1.1.0;
  dest_npi = v.1.1.1.1.1.0;
  dest_addr = v.1.1.1.1.1.1.0;
  esm_class = v.1.1.1.1.1.1.1.0;
  protocol_id = v.1.1.1.1.1.1.1.1.0;
  priority = v.1.1.1.1.1.1.1.1.1.0;
  schedule = v.1.1.1.1.1.1.1.1.1.1.0;
  validity = v.1.1.1.1.1.1.1.1.1.1.1.0;
  registered = v.1.1.1.1.1.1.1.1.1.1.1.1.0;
  replace = v.1.1.1.1.1.1.1.1.1.1.1.1.1.0;
  data_coding = v.1.1.1.1.1.1.1.1.1.1.1.1.1.1.0;
  default_msg = v.1.1.1.1.1.1.1.1.1.1.1.1.1.1.1.0;
  short_message = v.1.1.1.1.1.1.1.1.1.1.1.1.1.1.1.1.0;
  params = params;
}

-- a body without fields
abbrev pub bare_at : Body → List ℕ → Result Body PduError
bare_at body octets = ended octets >>= λ done. Ok body

unfoldable pub bind_at : Mode → List ℕ → Result Body PduError
bind_at mode octets = do
  values ← values_at bind_fields octets
  done ← ended values.1
  Ok (bind_of mode values.0)

unfoldable pub sm_at : List ℕ → Result Sm PduError
sm_at octets = do
  values ← values_at sm_fields octets
  params ← parameters_at values.1
  Ok (sm_of values.0 params)

abbrev pub submit_at : List ℕ → Result Body PduError
submit_at octets = sm_at octets >>= λ sm. Ok (body.Submit sm)

abbrev pub deliver_at : List ℕ → Result Body PduError
deliver_at octets = sm_at octets >>= λ sm. Ok (body.Deliver sm)

-- a response with a status other than 0 may have no body
abbrev pub is_absent : ℕ → List ℕ → Bool
is_absent status octets = (length octets == 0) && nat_lt 0 status

unfoldable pub bind_resp_at : Mode → ℕ → List ℕ → Result Body PduError
bind_resp_at mode status octets =
    if is_absent status octets then Ok (body.BindResp mode None []) else (values_at bind_resp_fields octets >>= λ values. parameters_at values.1 >>= λ params. Ok (body.BindResp mode (Some values.0.0) params))

unfoldable pub message_id_at : ℕ → List ℕ → Result (Option (List ℕ)) PduError
message_id_at status octets =
    if is_absent status octets then Ok None else (values_at sm_resp_fields octets >>= λ values. ended values.1 >>= λ done. Ok (Some values.0.0))

abbrev pub body_at : Command → ℕ → List ℕ → Result Body PduError
body_at command.BindTransmitter status octets = bind_at Transmitter octets
body_at command.BindTransceiver status octets = bind_at Transceiver octets
body_at command.BindTransmitterResp status octets = bind_resp_at Transmitter status octets
body_at command.BindTransceiverResp status octets = bind_resp_at Transceiver status octets
body_at command.SubmitSm status octets = submit_at octets
body_at command.DeliverSm status octets = deliver_at octets
body_at command.SubmitSmResp status octets = message_id_at status octets >>= λ id. Ok (body.SubmitResp id)
body_at command.DeliverSmResp status octets = message_id_at status octets >>= λ id. Ok (body.DeliverResp id)
body_at command.Unbind status octets = bare_at body.Unbind octets
body_at command.UnbindResp status octets = bare_at body.UnbindResp octets
body_at command.EnquireLink status octets = bare_at body.EnquireLink octets
body_at command.EnquireLinkResp status octets = bare_at body.EnquireLinkResp octets
body_at command.GenericNack status octets = bare_at body.GenericNack octets

-- ---- what takes memory

-- a string that is there, and not empty
abbrev pub IsFilled : Option (List ℕ) → Type 0
IsFilled None = ⊥
IsFilled (Some text) = text ≢ []

-- the bodies with strings
abbrev pub HasStrings : Body → Type 0
HasStrings (body.Bind mode system_id password system_type interface_version addr_ton addr_npi address_range) = Unit {0}
HasStrings (body.BindResp mode system_id params) = IsSome system_id
HasStrings (body.Submit sm) = Unit {0}
HasStrings (body.Deliver sm) = Unit {0}
HasStrings (body.SubmitResp message_id) = IsFilled message_id
HasStrings (body.DeliverResp message_id) = IsFilled message_id
HasStrings body.Unbind = ⊥
HasStrings body.UnbindResp = ⊥
HasStrings body.EnquireLink = ⊥
HasStrings body.EnquireLinkResp = ⊥
HasStrings body.GenericNack = ⊥

-- ---- the whole

-- a PDU with this status and number, of the body that was told
abbrev pub pdu_of : ℕ → ℕ → Result Body PduError → Result Pdu PduError
pdu_of status number told = told >>= λ b. Ok (record { status = status; number = number; body = b })

-- the command of a PDU and its header, or the first fault of the header
abbrev pub known : Option Command → Header → Result (Command × Header) PduError
known None header = Err errors.UnknownCommand
known (Some command) header = Ok (command, header)

unfoldable pub header_told : List ℕ → Result (Command × Header) PduError
header_told octets =
    if nat_lt (length octets) 16 then Err errors.Short
    else (if (number_at 0 octets == length octets) && nat_le (length octets) 70000 then known (command_of (number_at 4 octets)) (header_at_front octets)
    else Err errors.BadLength)

unfoldable pub reading : List ℕ → Result Pdu PduError
reading octets = do
  told ← header_told octets
  pdu_of told.1.status told.1.number (body_at told.0 told.1.status (drop 16 octets))
