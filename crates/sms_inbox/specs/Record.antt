-- A deliver_sm as it is kept, and its line.
use Rattle.std.specs.Prelude.{ℕ, ◌<◌, List, ◌++◌, codes, decimal}
use Rattle.sms_pdu.specs.declared.body.Sm.{Sm}
use Rattle.sms_inbox.specs.declared.record.Record.{Record}
use Rattle.sms_inbox.specs.declared.record.RecordRef.{RecordRef}
use Rattle.sms_inbox.specs.Escape.{AreOctets, octets_text}
use Rattle.sms_inbox.specs.Receipt.{error_text, receipt_in, text_of}

-- a deliver_sm that comes at this time on this bind
abbrev pub received : ℕ → ℕ → Sm → Record
received time bind sm = record {
  time = time;
  bind = bind;
  source = sm.source_addr;
  destination = sm.dest_addr;
  esm_class = sm.esm_class;
  id = (receipt_in sm).id;
  state = (receipt_in sm).state;
  error = (receipt_in sm).error;
  text = text_of sm;
}

abbrev pub owned_record : RecordRef → Record
owned_record r = record {
  time = r.time;
  bind = r.bind;
  source = r.source.now;
  destination = r.destination.now;
  esm_class = r.esm_class;
  id = r.id.now;
  state = r.state.now;
  error = error_text r.error;
  text = r.text.now;
}

-- numbers and octets that fit
pub record IsRecord (r : Record) : Type 0 where
  pub time : r.time < 18446744073709551616
  pub bind : r.bind < 256
  pub source : AreOctets r.source
  pub destination : AreOctets r.destination
  pub esm_class : r.esm_class < 256
  pub id : AreOctets r.id
  pub state : AreOctets r.state
  pub error : AreOctets r.error
  pub text : AreOctets r.text

-- ---- its line

abbrev pub number_field : ℕ → List ℕ
number_field n = codes "," ++ decimal n

abbrev pub octets_field : List ℕ → List ℕ
octets_field octets = codes "," ++ octets_text octets

-- when, where, from whom and to whom
abbrev pub head_text : Record → List ℕ
head_text r = codes "received" ++ number_field r.time ++ number_field r.bind ++ octets_field r.source ++ octets_field r.destination ++ number_field r.esm_class

-- the receipt, and the text
abbrev pub said_text : Record → List ℕ
said_text r = octets_field r.id ++ octets_field r.state ++ octets_field r.error ++ octets_field r.text

abbrev pub record_text : Record → List ℕ
record_text r = head_text r ++ said_text r ++ codes "\n"
