-- What a worker had when its call began.
use Rattle.std.specs.Prelude.{ℕ, List, [], None, false}
use Rattle.std.proofs.Common.{arith, refl}
use Rattle.atomic_table.specs.Seated.{TableId}
use Rattle.sms_bind.specs.declared.down.DownMark.{DownMark}
use Rattle.sms_book.specs.Shares.{Share}
use Rattle.sms_pdu.specs.declared.reply.Reply.{Reply}
use Rattle.sms_window.specs.SeatState.{SeatState}
use Rattle.sms_window.specs.Seats.{nobody}
use Rattle.sms_message.specs.declared.fields.Fields.{Fields}
use Rattle.sms_message.specs.declared.message.Message.{Message}
use Rattle.sms_message.specs.declared.rules.Rules.{Rules}

pub record Start : Type 0 where
  pub rules : Rules
  pub messages : List Message
  pub seat : SeatState
  pub share : Share
  -- the requests that it had given to wires
  pub requests : List (List ℕ)
  -- what its consumer had received
  pub received : List Reply
  -- the mark of its bind's line
  pub mark : DownMark

abbrev pub no_table : TableId
no_table = record { words = 0; slots = 0; views_name = 0; atom = 0; block = 0; offset = 0; slot_names = [] }

abbrev pub no_fields : Fields
no_fields = record {
  service_type = [];
  source_ton = None;
  source_npi = None;
  dest_ton = None;
  dest_npi = None;
  protocol_id = 0;
  priority = 0;
  schedule = [];
  validity = [];
  registered = None;
  replace = false;
  params = [];
  room = refl;
}

abbrev pub no_start : Start
no_start = record {
  rules = record {
    policy = record { attempts = 1; base_ms = 0; lawful = record { some_attempt = omega arith; few_attempts = omega arith; short_wait = omega arith } };
    depth = 1;
    answer_ms = 0;
    turns = 0;
    receipts = false;
    tariff = [];
    long_reference = false;
    fields = no_fields;
    bounded = omega arith;
    some_open = omega arith;
    few_open = omega arith;
  };
  messages = [];
  seat = record { window = no_table; view = nobody };
  share = record { number = 0; amounts = [] };
  requests = [];
  received = [];
  mark = record { cause = record { id = 0 } };
}
