-- The fields of each body, in order, with their maxima (SMPP 3.4 chapters 4 and 5).
use Rattle.std.specs.Prelude.{◌≡◌, ◌≢◌, ℕ, ◌<◌, ◌≤◌, ◌^◌, ◌⊎◌, List, [], ◌∷◌, ◌++◌, length}
use Rattle.std.specs.List.{AllByRecursion}
use Rattle.std.specs.Int.{w16, to_be_bytes}
use Rattle.sms_pdu.specs.declared.field.Field.{Field}
use Rattle.sms_pdu.specs.declared.field.Field.TheVariants.{SystemId, Password, SystemType, InterfaceVersion, AddrTon, AddrNpi, AddressRange, ServiceType, SourceTon, SourceNpi, SourceAddr, DestTon, DestNpi, DestAddr, EsmClass, ProtocolId, Priority, Schedule, Validity, Registered, Replace, DataCoding, DefaultMsg, ShortMessage, MessageId}
use Rattle.sms_pdu.specs.declared.parameter.Parameter.{Parameter}

-- what a field is
pub data Kind : Type 0 where
  -- one octet
  Number : Kind
  -- a C-Octet String; its maximum counts the 0
  Text : ℕ → Kind
  -- a C-Octet String of 0 or 16 octets before its 0
  Time : Kind
  -- one octet of length, and that many octets
  Message : Kind

-- a field, and what it is
pub record Row : Type 0 where
  pub field : Field
  pub kind : Kind

infix 6 ◌is◌
abbrev pub ◌is◌ : Field → Kind → Row
field is kind = record { field = field; kind = kind }

-- bind_transmitter, bind_transceiver (SMPP 3.4 4.1.1, 4.1.5)
abbrev pub bind_fields : List Row
bind_fields =
    (SystemId is Text 16)
    ∷ (Password is Text 9)
    ∷ (SystemType is Text 13)
    ∷ (InterfaceVersion is Number)
    ∷ (AddrTon is Number)
    ∷ (AddrNpi is Number)
    ∷ (AddressRange is Text 41)
    ∷ []

-- their responses, before the parameters (SMPP 3.4 4.1.2, 4.1.6)
abbrev pub bind_resp_fields : List Row
bind_resp_fields = (SystemId is Text 16) ∷ []

-- submit_sm, deliver_sm, before the parameters (SMPP 3.4 4.4.1, 4.6.1)
abbrev pub sm_fields : List Row
sm_fields =
    (ServiceType is Text 6)
    ∷ (SourceTon is Number)
    ∷ (SourceNpi is Number)
    ∷ (SourceAddr is Text 21)
    ∷ (DestTon is Number)
    ∷ (DestNpi is Number)
    ∷ (DestAddr is Text 21)
    ∷ (EsmClass is Number)
    ∷ (ProtocolId is Number)
    ∷ (Priority is Number)
    ∷ (Schedule is Time)
    ∷ (Validity is Time)
    ∷ (Registered is Number)
    ∷ (Replace is Number)
    ∷ (DataCoding is Number)
    ∷ (DefaultMsg is Number)
    ∷ (ShortMessage is Message)
    ∷ []

-- submit_sm_resp, deliver_sm_resp (SMPP 3.4 4.4.2, 4.6.2)
abbrev pub sm_resp_fields : List Row
sm_resp_fields = (MessageId is Text 65) ∷ []

-- a field's value: a number, or the octets without the 0 or the length
abbrev pub Value : Kind → Type 0
Value Number = ℕ
Value (Text maximum) = List ℕ
Value Time = List ℕ
Value Message = List ℕ

abbrev pub Values : List Row → Type 0
Values [] = Unit {0}
Values (row ∷ rows) = Value row.kind × Values rows

-- the octets of a value
abbrev pub spelling : (kind : Kind) → Value kind → List ℕ
spelling Number n = n ∷ []
spelling (Text maximum) text = text ++ 0 ∷ []
spelling Time text = text ++ 0 ∷ []
spelling Message text = length text ∷ text

abbrev pub spellings : (rows : List Row) → Values rows → List ℕ
spellings [] values = []
spellings (row ∷ rows) values = spelling row.kind values.0 ++ spellings rows values.1

abbrev pub HasNoZero : List ℕ → Type 0
HasNoZero text = AllByRecursion (λ octet. octet ≢ 0) text

-- the values that a field may have
abbrev pub Fits : (kind : Kind) → Value kind → Type 0
Fits Number n = Unit {0}
Fits (Text maximum) text = HasNoZero text × (length text < maximum)
Fits Time text = HasNoZero text × ((length text ≡ 0) ⊎ (length text ≡ 16))
Fits Message text = length text ≤ 254

abbrev pub AllFit : (rows : List Row) → Values rows → Type 0
AllFit [] values = Unit {0}
AllFit (row ∷ rows) values = Fits row.kind values.0 × AllFit rows values.1

-- a parameter is its tag, the length of its value, and its value (SMPP 3.4 5.3.1)
abbrev pub parameter_spelling : Parameter → List ℕ
parameter_spelling p = to_be_bytes w16 p.tag ++ to_be_bytes w16 (length p.value) ++ p.value

pub record ParameterFits (p : Parameter) : Type 0 where
  pub tag : p.tag < 2 ^ 16
  pub value : length p.value < 2 ^ 16

abbrev pub parameters_spelling : List Parameter → List ℕ
parameters_spelling [] = []
parameters_spelling (p ∷ ps) = parameter_spelling p ++ parameters_spelling ps

abbrev pub ParametersFit : List Parameter → Type 0
ParametersFit ps = AllByRecursion ParameterFits ps
