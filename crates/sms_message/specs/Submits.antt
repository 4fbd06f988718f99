-- The parts of a message, and the submit_sm of each (SMPP 3.4 4.4.1).
use Rattle.std.specs.Prelude.{◌≡◌, ℕ, ◌%◌, Bool, List, string_bytes, if◌then◌else◌, unwrap_or}
use Rattle.std.specs.Str.{chars}
use Rattle.sms_pdu.specs.declared.body.Pdu.{Pdu}
use Rattle.sms_pdu.specs.declared.body.Sm.{Sm}
use Rattle.sms_pdu.specs.declared.body.Body.TheVariants.{Submit}
use Rattle.sms_pdu.specs.Grammar.{Spells}
use Rattle.sms_alphabet.specs.declared.coded.Coded.{Coded}
use Rattle.sms_alphabet.specs.Spelling.{chosen}
use Rattle.sms_segment.specs.declared.part.Part.{Part}
use Rattle.sms_segment.specs.declared.place.Reference.{Reference}
use Rattle.sms_segment.specs.declared.place.Reference.TheVariants.{Short, Long}
use Rattle.sms_segment.specs.Part.{short_message, esm_class, data_coding}
use Rattle.sms_segment.specs.Message.{parts_of}
use Rattle.sms_message.specs.declared.message.Message.{Message}
use Rattle.sms_message.specs.declared.rules.Rules.{Rules}
use Rattle.sms_message.specs.Addresses.{Address, IsSource, IsDestination}

-- both addresses are good
abbrev pub HasAddresses : Message → Type 0
HasAddresses m = ((source : Address) × IsSource (string_bytes m.source) source) × ((dest : Address) × IsDestination (string_bytes m.dest) dest)

abbrev pub coded_text : Message → Coded
coded_text m = chosen (chars (string_bytes m.text))

-- the reference that a message's parts have in common, of 16 bits where it is long, else of 8: its index counts them
abbrev pub reference_for : Bool → Message → Reference
reference_for long m = if long then Long (m.index % 65536) else Short (m.index % 256)

abbrev pub reference_of : Rules → Message → Reference
reference_of rules m = reference_for rules.long_reference m

-- the parts that the message is sent as, with a reference of that kind
abbrev pub parts_for : Bool → Message → List Part
parts_for long m = parts_of (coded_text m) (reference_for long m)

abbrev pub message_parts : Rules → Message → List Part
message_parts rules m = parts_for rules.long_reference m

-- a receipt of the delivery is asked for (5.2.17)
abbrev pub registered : Bool → ℕ
registered receipts = if receipts then 1 else 0

-- an earlier message is replaced (5.2.18)
abbrev pub replaced : Bool → ℕ
replaced replace = if replace then 1 else 0

-- its fields: what the sending asks for, and else what the message and the rules say; those of which nothing is said are empty or 0
abbrev pub submitted : Rules → Address → Address → Part → Sm
submitted rules source dest part = record {
  service_type = rules.fields.service_type;
  source_ton = unwrap_or rules.fields.source_ton source.ton;
  source_npi = unwrap_or rules.fields.source_npi source.npi;
  source_addr = source.octets;
  dest_ton = unwrap_or rules.fields.dest_ton dest.ton;
  dest_npi = unwrap_or rules.fields.dest_npi dest.npi;
  dest_addr = dest.octets;
  esm_class = esm_class part.place;
  protocol_id = rules.fields.protocol_id;
  priority = rules.fields.priority;
  schedule = rules.fields.schedule;
  validity = rules.fields.validity;
  registered = unwrap_or rules.fields.registered (registered rules.receipts);
  replace = replaced rules.fields.replace;
  data_coding = data_coding part.coding;
  default_msg = 0;
  short_message = short_message part;
  params = rules.fields.params;
}

abbrev pub submit_sm : Rules → Address → Address → Part → ℕ → Pdu
submit_sm rules source dest part number = record { status = 0; number = number; body = Submit (submitted rules source dest part) }

-- the PDU is the submit_sm of this part of the message, with this number
pub record IsSubmitSm (rules : Rules) (m : Message) (part : Part) (number : ℕ) (pdu : Pdu) : Type 0 where
  pub source : Address
  pub dest : Address
  pub from : IsSource (string_bytes m.source) source
  pub to : IsDestination (string_bytes m.dest) dest
  pub is : pdu ≡ submit_sm rules source dest part number

-- the octets spell that
abbrev pub SpellsSubmit : Rules → Message → Part → ℕ → List ℕ → Type 0
SpellsSubmit rules m part number octets = (pdu : Pdu) × IsSubmitSm rules m part number pdu × Spells pdu octets
