-- A note read from its line: what the fields of a line that was written say. A line that says something else too is read as if a run had
-- written it, and refused because its note is written otherwise.
use Rattle.std.specs.Prelude.{ℕ, suc, ◌+◌, ◌*◌, ◌-◌, ◌%◌, ◌==◌, ◌||◌, nat_lt, Bool, List, [], ◌∷◌, ◌++◌, take, drop, Option, None, option_map, option_and_then, if◌then◌else◌, codes}
use Rattle.std.specs.Str.{bytes_eq}
use Rattle.sms_core.specs.Decimal.{decimal_in}
use Rattle.sms_pdu.specs.Reply.{id_text as id_before_zero}
use Rattle.sms_message.specs.Names.{refusal_named}
use Rattle.sms_journal.specs.declared.notes.note.Note.{Note}
use Rattle.sms_journal.specs.declared.notes.note.Note.TheVariants.{Begun, Sent, Unsent, Heard, Refused, End, Round}
use Rattle.sms_journal.specs.declared.text.note_fields.Escape.{Escape}
use Rattle.sms_journal.specs.declared.text.note_fields.Escape.TheVariants.{Plain, First, Second}

-- ---- fields

-- a comma or a line feed
abbrev pub is_end : ℕ → Bool
is_end c = (c == 44) || (c == 10)

-- the place of the first, or the length
abbrev pub end_at : List ℕ → ℕ
end_at [] = 0
end_at (c ∷ cs) = if is_end c then 0 else suc (end_at cs)

-- what stands before it, and after it
unfoldable pub field_in : List ℕ → List ℕ
field_in text = take (end_at text) text

unfoldable pub behind_field : List ℕ → List ℕ
behind_field text = drop (end_at text + 1) text

unfoldable pub u64_in : List ℕ → Option ℕ
u64_in field = decimal_in 0xFFFF_FFFF_FFFF_FFFF field

unfoldable pub u32_in : List ℕ → Option ℕ
u32_in field = decimal_in 0xFFFF_FFFF field

unfoldable pub u8_in : List ℕ → Option ℕ
u8_in field = decimal_in 0xFF field

abbrev pub flag_in : List ℕ → Bool
flag_in field = bytes_eq field (codes "1")

-- ---- message_ids

abbrev pub digit_in : ℕ → ℕ
digit_in c = (if nat_lt c 97 then c - 48 else c - 87) % 16

-- octets, of which a percent and two digits stand for one
abbrev pub octets_in : Escape → List ℕ → List ℕ
octets_in escape [] = []
octets_in Plain (c ∷ cs) = if c == 0x25 then octets_in First cs else c ∷ octets_in Plain cs
octets_in First (c ∷ cs) = octets_in (Second (digit_in c)) cs
octets_in (Second digit) (c ∷ cs) = (digit % 16 * 16 + digit_in c) ∷ octets_in Plain cs

unfoldable pub id_in : List ℕ → List ℕ
id_in field = id_before_zero (octets_in Plain field ++ 0 ∷ [])

-- ---- notes, after their word and time

abbrev pub begun_in : List ℕ → Option Note
begun_in text = option_map (λ m. Begun m) (u64_in (field_in text))

abbrev pub sent_of : List ℕ → List ℕ → List ℕ → List ℕ → Option Note
sent_of worker number message part =
    option_and_then (λ w. option_and_then (λ n. option_and_then (λ m. option_map (λ p. Sent (record { worker = w; number = n }) m p) (u8_in part)) (u64_in message)) (u32_in number)) (u32_in worker)

abbrev pub sent_in : List ℕ → Option Note
sent_in text = sent_of (field_in text) (field_in (behind_field text)) (field_in (behind_field (behind_field text))) (field_in (behind_field (behind_field (behind_field text))))

abbrev pub unsent_of : List ℕ → List ℕ → Option Note
unsent_of worker number = option_and_then (λ w. option_map (λ n. Unsent (record { worker = w; number = n })) (u32_in number)) (u32_in worker)

abbrev pub unsent_in : List ℕ → Option Note
unsent_in text = unsent_of (field_in text) (field_in (behind_field text))

abbrev pub heard_of : List ℕ → List ℕ → List ℕ → List ℕ → List ℕ → Option Note
heard_of worker number status nack id =
    option_and_then (λ w. option_and_then (λ n. option_map (λ s. Heard w (record { number = n; status = s; nack = flag_in nack; id = id_in id })) (u32_in status)) (u32_in number)) (u32_in worker)

abbrev pub heard_in : List ℕ → Option Note
heard_in text =
    heard_of (field_in text) (field_in (behind_field text)) (field_in (behind_field (behind_field text))) (field_in (behind_field (behind_field (behind_field text))))
    (field_in (behind_field (behind_field (behind_field (behind_field text)))))

abbrev pub refused_of : List ℕ → List ℕ → Option Note
refused_of message word = option_and_then (λ m. option_map (λ r. Refused m r) (refusal_named word)) (u64_in message)

abbrev pub refused_in : List ℕ → Option Note
refused_in text = refused_of (field_in text) (field_in (behind_field text))

abbrev pub end_in : List ℕ → Option Note
end_in text = option_map (λ s. End s) (u8_in (field_in text))

abbrev pub round_of : List ℕ → List ℕ → List ℕ → Option Note
round_of number binds workers = option_and_then (λ n. option_and_then (λ b. option_map (λ w. Round n b w) (u32_in workers)) (u32_in binds)) (u32_in number)

abbrev pub round_in : List ℕ → Option Note
round_in text = round_of (field_in text) (field_in (behind_field text)) (field_in (behind_field (behind_field text)))

abbrev pub kind_in : List ℕ → List ℕ → Option Note
kind_in word text =
    if bytes_eq word (codes "sent") then sent_in text
    else (if bytes_eq word (codes "heard") then heard_in text
    else (if bytes_eq word (codes "begun") then begun_in text
    else (if bytes_eq word (codes "refused") then refused_in text
    else (if bytes_eq word (codes "unsent") then unsent_in text
    else (if bytes_eq word (codes "end") then end_in text
    else (if bytes_eq word (codes "round") then round_in text else None))))))

-- ---- lines

unfoldable pub time_in : List ℕ → Option ℕ
time_in line = u64_in (field_in (behind_field line))

unfoldable pub note_in : List ℕ → Option Note
note_in line = kind_in (field_in line) (behind_field (behind_field line))
