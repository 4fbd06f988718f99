-- A record read from its line: what the fields of a line that was written say. A line that says something else too is read as if it had been
-- written, and is refused since its record is written otherwise.
use Rattle.std.specs.Prelude.{ℕ, suc, ◌+◌, ◌==◌, ◌||◌, Bool, List, [], ◌∷◌, take, drop, Option, option_map, option_and_then, if◌then◌else◌}
use Rattle.sms_core.specs.Decimal.{decimal_in}
use Rattle.sms_inbox.specs.declared.fields.HeadFields.{HeadFields}
use Rattle.sms_inbox.specs.declared.fields.SaidFields.{SaidFields}
use Rattle.sms_inbox.specs.declared.fields.Numbers.{Numbers}
use Rattle.sms_inbox.specs.declared.record.Record.{Record}
use Rattle.sms_inbox.specs.declared.escape.Escape.TheVariants.{Plain}
use Rattle.sms_inbox.specs.Escape.{octets_in}

-- a comma or a line feed
abbrev pub is_end : ℕ → Bool
is_end c = (c == 44) || (c == 10)

-- the place of the first, or the length
abbrev pub end_at : List ℕ → ℕ
end_at [] = 0
end_at (c ∷ cs) = if is_end c then 0 else suc (end_at cs)

-- what stands before it, and after it
unfoldable pub field_in : List ℕ → List ℕ
field_in text = take (end_at text) text

unfoldable pub behind_field : List ℕ → List ℕ
behind_field text = drop (end_at text + 1) text

unfoldable pub u64_in : List ℕ → Option ℕ
u64_in field = decimal_in 0xFFFF_FFFF_FFFF_FFFF field

unfoldable pub u8_in : List ℕ → Option ℕ
u8_in field = decimal_in 0xFF field

-- the fields behind the word, which say when, where, from whom and to whom
pub record HeadTexts : Type 0 where
  pub time : List ℕ
  pub bind : List ℕ
  pub source : List ℕ
  pub destination : List ℕ
  pub esm_class : List ℕ

-- those of the receipt, and the text
pub record SaidTexts : Type 0 where
  pub id : List ℕ
  pub state : List ℕ
  pub error : List ℕ
  pub text : List ℕ

abbrev pub head_in : List ℕ → HeadTexts
head_in line = record {
  time = field_in (behind_field line);
  bind = field_in (behind_field (behind_field line));
  source = field_in (behind_field (behind_field (behind_field line)));
  destination = field_in (behind_field (behind_field (behind_field (behind_field line))));
  esm_class = field_in (behind_field (behind_field (behind_field (behind_field (behind_field line)))));
}

abbrev pub behind_head : List ℕ → List ℕ
behind_head line = behind_field (behind_field (behind_field (behind_field (behind_field (behind_field line)))))

abbrev pub said_in : List ℕ → SaidTexts
said_in text = record {
  id = field_in text;
  state = field_in (behind_field text);
  error = field_in (behind_field (behind_field text));
  text = field_in (behind_field (behind_field (behind_field text)));
}

abbrev pub numbers_in : HeadTexts → Option Numbers
numbers_in head = option_and_then (λ t. option_and_then (λ b. option_map (λ e. record { time = t; bind = b; esm_class = e }) (u8_in head.esm_class)) (u8_in head.bind)) (u64_in head.time)

abbrev pub record_with : HeadTexts → SaidTexts → Numbers → Record
record_with head said n = record {
  time = n.time;
  bind = n.bind;
  source = octets_in Plain head.source;
  destination = octets_in Plain head.destination;
  esm_class = n.esm_class;
  id = octets_in Plain said.id;
  state = octets_in Plain said.state;
  error = octets_in Plain said.error;
  text = octets_in Plain said.text;
}

abbrev pub record_in : List ℕ → Option Record
record_in line = option_map (record_with (head_in line) (said_in (behind_head line))) (numbers_in (head_in line))

-- ---- what is borrowed

abbrev pub head_texts : HeadFields → HeadTexts
head_texts h = record { time = h.time.now; bind = h.bind.now; source = h.source.now; destination = h.destination.now; esm_class = h.esm_class.now }

abbrev pub said_texts : SaidFields → SaidTexts
said_texts s = record { id = s.id.now; state = s.state.now; error = s.error.now; text = s.text.now }
