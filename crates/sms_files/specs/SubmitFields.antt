-- The fields file: its keys in their order, what each may hold, and its value where it is missing (SMPP 3.4 4.4.1).
use Rattle.std.specs.Prelude.{◌≡◌, ℕ, ◌+◌, Bool, true, false, List, [], ◌∷◌, Option, Some, None, option_and_then, option_map, is_some, if◌then◌else◌, codes, slice_index_or, string_bytes}
use Rattle.std.specs.Str.{bytes_eq}
use Rattle.toml.specs.Data.{Data, Members, no_members, member, array, get_member, as_array, as_integer}
use Rattle.sms_centre.specs.Keys.{strings_in}
use Rattle.sms_pdu.specs.declared.parameter.Parameter.{Parameter}
use Rattle.sms_message.specs.Room.{are_few}
use Rattle.sms_message.specs.declared.fields.Fields.{Fields}
use Rattle.sms_files.specs.Config.{Key, fault_at, first_of, flag_in, in_range, is_among, number_in, octets_in}
use Rattle.sms_files.specs.ConfigFaults.{OfTable, toml_of}
use Rattle.sms_files.specs.ConfigValues.{IsValueOf, IsValueAt}
use Rattle.sms_files.specs.Parameters.{IsFirstBad, parameters_of}
use Rattle.sms_files.specs.Times.{from_now, time_text}
use Rattle.sms_files.specs.declared.config.Config.{Config}
use Rattle.sms_files.specs.declared.config.config_value.ConfigValue.{ConfigValue}
use Rattle.sms_files.specs.declared.config.config_value.ConfigValue.TheVariants.{Missing, Texts, BadText, Values}
use Rattle.sms_files.specs.declared.fields.parameters.Found.{Found}
use Rattle.sms_files.specs.declared.fields.parameters.Found.TheVariants.{Good, Bad}
use Rattle.sms_files.specs.declared.fault.InputFault.{InputFault}
use Rattle.sms_files.specs.declared.fault.InputFault.TheVariants.{BadKey, NotToml, OutOfMemory}

-- a number that may be missing
abbrev pub number_if : ℕ → ℕ → Option Data → Option (Option ℕ)
number_if least most None = Some None
number_if least most (Some d) = option_map Some (option_and_then (in_range least most) (as_integer d))

-- a time, empty where the key is missing
abbrev pub time_in : Option Data → Option (List ℕ)
time_in value = option_and_then time_text (octets_in 17 [] value)

-- parameters of 1,024 octets at most in all
abbrev pub few_parameters : List Parameter → Option (List Parameter)
few_parameters ps = if are_few ps then Some ps else None

abbrev pub parameters_in : Option Data → Option (List Parameter)
parameters_in None = Some []
parameters_in (Some d) = option_and_then few_parameters (option_and_then parameters_of (option_and_then strings_in (as_array d)))

-- the values of the keys
abbrev pub service_type_of : Members → Option (List ℕ)
service_type_of t = octets_in 6 (codes "") (get_member (codes "service_type") t)

abbrev pub source_ton_of : Members → Option (Option ℕ)
source_ton_of t = number_if 0 255 (get_member (codes "source_ton") t)

abbrev pub source_npi_of : Members → Option (Option ℕ)
source_npi_of t = number_if 0 255 (get_member (codes "source_npi") t)

abbrev pub dest_ton_of : Members → Option (Option ℕ)
dest_ton_of t = number_if 0 255 (get_member (codes "destination_ton") t)

abbrev pub dest_npi_of : Members → Option (Option ℕ)
dest_npi_of t = number_if 0 255 (get_member (codes "destination_npi") t)

abbrev pub protocol_id_of : Members → Option ℕ
protocol_id_of t = number_in 0 0 255 (get_member (codes "protocol_id") t)

abbrev pub priority_of : Members → Option ℕ
priority_of t = number_in 0 0 3 (get_member (codes "priority") t)

abbrev pub registered_of : Members → Option (Option ℕ)
registered_of t = number_if 0 31 (get_member (codes "registered_delivery") t)

abbrev pub replace_of : Members → Option Bool
replace_of t = flag_in (get_member (codes "replace") t)

abbrev pub schedule_of : Members → Option (List ℕ)
schedule_of t = time_in (get_member (codes "schedule") t)

abbrev pub validity_of : Members → Option (List ℕ)
validity_of t = time_in (get_member (codes "validity") t)

-- a validity in seconds, at most 30 days, which can't stand beside the other
abbrev pub seconds_in : Bool → Option Data → Option (Option ℕ)
seconds_in beside None = Some None
seconds_in true (Some d) = None
seconds_in false (Some d) = number_if 1 2_592_000 (Some d)

abbrev pub seconds_of : Members → Option (Option ℕ)
seconds_of t = seconds_in (is_some (get_member (codes "validity") t)) (get_member (codes "validity_s") t)

abbrev pub params_of : Members → Option (List Parameter)
params_of t = parameters_in (get_member (codes "parameters") t)

-- the first key of each group that has no good value
abbrev pub addressing_fault : Members → Option Key
addressing_fault t =
    first_of (fault_at (codes "service_type") (service_type_of t))
    (first_of (fault_at (codes "source_ton") (source_ton_of t))
    (first_of (fault_at (codes "source_npi") (source_npi_of t))
    (first_of (fault_at (codes "destination_ton") (dest_ton_of t))
    (fault_at (codes "destination_npi") (dest_npi_of t)))))

abbrev pub handling_fault : Members → Option Key
handling_fault t =
    first_of (fault_at (codes "protocol_id") (protocol_id_of t))
    (first_of (fault_at (codes "priority") (priority_of t))
    (first_of (fault_at (codes "registered_delivery") (registered_of t))
    (fault_at (codes "replace") (replace_of t))))

abbrev pub times_fault : Members → Option Key
times_fault t =
    first_of (fault_at (codes "schedule") (schedule_of t))
    (first_of (fault_at (codes "validity") (validity_of t))
    (fault_at (codes "validity_s") (seconds_of t)))

abbrev pub params_fault : Members → Option Key
params_fault t = fault_at (codes "parameters") (params_of t)

-- the keys that there are
abbrev pub known_fields : List Key
known_fields =
    codes "parameters" ∷ codes "service_type" ∷ codes "source_ton" ∷ codes "source_npi" ∷ codes "destination_ton" ∷ codes "destination_npi"
    ∷ codes "protocol_id" ∷ codes "priority" ∷ codes "registered_delivery" ∷ codes "replace"
    ∷ codes "schedule" ∷ codes "validity" ∷ codes "validity_s" ∷ []

-- the least unknown key; a table's keys ascend
abbrev pub unknown_field : Members → Option Key
unknown_field no_members = None
unknown_field (member key value ms) = if is_among key known_fields then unknown_field ms else Some key

-- the first key whose value is of another type or out of range, and else the least unknown one
abbrev pub faulty_field : Members → Option Key
faulty_field t = first_of (addressing_fault t) (first_of (handling_fault t) (first_of (times_fault t) (first_of (params_fault t) (unknown_field t))))

-- the validity, in seconds where it is so
abbrev pub validity_by : List ℕ → Option ℕ → List ℕ
validity_by text None = text
validity_by text (Some seconds) = from_now seconds

-- the fields are those of the keys
pub record SaysFields (t : Members) (f : Fields) : Type 0 where
  pub service_type : service_type_of t ≡ Some f.service_type
  pub source_ton : source_ton_of t ≡ Some f.source_ton
  pub source_npi : source_npi_of t ≡ Some f.source_npi
  pub dest_ton : dest_ton_of t ≡ Some f.dest_ton
  pub dest_npi : dest_npi_of t ≡ Some f.dest_npi
  pub protocol_id : protocol_id_of t ≡ Some f.protocol_id
  pub priority : priority_of t ≡ Some f.priority
  pub registered : registered_of t ≡ Some f.registered
  pub replace : replace_of t ≡ Some f.replace
  pub schedule : schedule_of t ≡ Some f.schedule
  pub text : List ℕ
  pub text_is : validity_of t ≡ Some text
  pub seconds : Option ℕ
  pub seconds_is : seconds_of t ≡ Some seconds
  pub validity : f.validity ≡ validity_by text seconds
  pub params : params_of t ≡ Some f.params

-- the octets are a fields file without a fault, which says this
abbrev pub IsFields : List ℕ → Fields → Type 0
IsFields octets f = OfTable octets (λ t. (faulty_field t ≡ None) × SaysFields t f)

-- ---- what a fault says

-- of a list of texts the first that spells no parameter, by its number from 1; where each spells one they are too many octets
abbrev pub AreParametersOf : List (List ℕ) → ConfigValue → Type 0
AreParametersOf texts Texts = (ps : List Parameter) × (parameters_of texts ≡ Some ps)
AreParametersOf texts (BadText number text) = (place : ℕ) × (number ≡ place + 1) × IsFirstBad texts place × (string_bytes text ≡ slice_index_or texts place [])
AreParametersOf texts _ = ⊥

abbrev pub IsListOf : Option (List (List ℕ)) → ConfigValue → Type 0
IsListOf None value = value ≡ Values
IsListOf (Some texts) value = AreParametersOf texts value

abbrev pub AreParametersAt : Option Data → ConfigValue → Type 0
AreParametersAt (Some (array ds)) value = IsListOf (strings_in ds) value
AreParametersAt (Some d) value = IsValueOf d value
AreParametersAt None value = value ≡ Missing

-- what was found where parameters are wanted: these, or what stands there in place of any
abbrev pub IsFoundFor : Option (List Parameter) → (ConfigValue → Type 0) → Found → Type 0
IsFoundFor wanted Shows (Good params) = wanted ≡ Some params
IsFoundFor wanted Shows (Bad value) = (wanted ≡ None) × Shows value

-- what a table has at a key: a list of parameters is looked at as such
abbrev pub IsFieldBy : Bool → Key → Members → ConfigValue → Type 0
IsFieldBy true key t value = AreParametersAt (get_member (codes "parameters") t) value
IsFieldBy false key t value = IsValueAt key t value

abbrev pub are_parameters : Key → Bool
are_parameters key = bytes_eq key (codes "parameters")

abbrev pub IsFieldAt : Key → Members → ConfigValue → Type 0
IsFieldAt key t value = IsFieldBy (are_parameters key) key t value

-- what a fault says of the keys of a table, of which this is the first faulty one
abbrev pub TellsField : Members → Option Key → InputFault → Type 0
TellsField t faulty (BadKey key value) = (faulty ≡ Some (string_bytes key)) × IsFieldAt (string_bytes key) t value
TellsField t faulty (OutOfMemory _) = Unit {0}
TellsField t faulty _ = ⊥

-- what a fault says of the octets of a fields file: they aren't TOML, or which key is the first faulty one, and what stands there
abbrev pub TellsFields : List ℕ → InputFault → Type 0
TellsFields octets (NotToml why) = toml_of octets ≡ None
TellsFields octets (BadKey key value) = OfTable octets (λ t. (faulty_field t ≡ Some (string_bytes key)) × IsFieldAt (string_bytes key) t value)
TellsFields octets (OutOfMemory _) = Unit {0}
TellsFields octets _ = ⊥

-- a config with these fields in place of its own
abbrev pub with_fields : Fields → Config → Config
with_fields fields config = record config { fields = fields }
