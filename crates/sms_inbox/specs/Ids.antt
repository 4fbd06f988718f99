-- Ids of messages, as an answer and a receipt have them.
use Rattle.std.specs.Prelude.{ℕ, ◌==◌, ◌&&◌, nat_lt, nat_le, Bool, true, false, List, [], ◌∷◌, length, Option, Some, None, option_map, decimal, if◌then◌else◌}
use Rattle.std.specs.Char.{digit_value}
use Rattle.std.specs.Str.{bytes_eq}
use Rattle.std.specs.Str.Parse.{digits_value}
use Rattle.sms_inbox.specs.declared.ids.Ids.{Ids}
use Rattle.sms_inbox.specs.declared.ids.Ids.TheVariants.{Same, HexDec, DecHex}
use Rattle.sms_inbox.specs.Escape.{octets_text}

-- ---- numbers

abbrev pub are_digits : ℕ → List ℕ → Bool
are_digits radix [] = true
are_digits radix (c ∷ cs) = nat_lt (digit_value c) radix && are_digits radix cs

-- the number below 2^64 that digits write, leading zeros among them
abbrev pub number_in : ℕ → List ℕ → Option ℕ
number_in radix ds =
    if nat_lt 0 (length ds) && (are_digits radix ds && nat_le (digits_value radix ds) 0xFFFF_FFFF_FFFF_FFFF) then Some (digits_value radix ds) else None

abbrev pub are_same : Option ℕ → Option ℕ → Bool
are_same None n = false
are_same (Some m) None = false
are_same (Some m) (Some n) = m == n

-- ---- of one message

-- the answer's id and the receipt's are of one message. No octets are no id
abbrev pub same_id : Ids → List ℕ → List ℕ → Bool
same_id Same answer receipt = nat_lt 0 (length answer) && bytes_eq answer receipt
same_id HexDec answer receipt = are_same (number_in 16 answer) (number_in 10 receipt)
same_id DecHex answer receipt = are_same (number_in 10 answer) (number_in 16 receipt)

-- ---- keys

abbrev pub octets_key : List ℕ → Option (List ℕ)
octets_key id = if length id == 0 then None else Some (octets_text id)

abbrev pub number_key : ℕ → List ℕ → Option (List ℕ)
number_key radix id = option_map decimal (number_in radix id)

abbrev pub answer_key : Ids → List ℕ → Option (List ℕ)
answer_key Same id = octets_key id
answer_key HexDec id = number_key 16 id
answer_key DecHex id = number_key 10 id

abbrev pub receipt_key : Ids → List ℕ → Option (List ℕ)
receipt_key Same id = octets_key id
receipt_key HexDec id = number_key 10 id
receipt_key DecHex id = number_key 16 id
