-- The short message of a text that needs no more than one.
use Rattle.std.specs.Prelude.{ℕ, ◌≡◌, ◌≤◌, ◌<◌, List, length, Option, Some, None}
use Rattle.sms_alphabet.specs.declared.coded.Coding.TheVariants.{Gsm, Ucs2}
use Rattle.sms_alphabet.specs.declared.coded.Coded.{Coded}
use Rattle.sms_segment.specs.declared.at_once.ShortMessage.{ShortMessage}
use Rattle.sms_segment.specs.Limits.{single_limit}
use Rattle.sms_segment.specs.Message.{whole}
use Rattle.sms_segment.specs.Part.{data_coding, short_message}

-- texts of septets and of UTF-16 units
abbrev pub gsm : List ℕ → Coded
gsm codes = record { coding = Gsm; units = codes }

abbrev pub utf16 : List ℕ → Coded
utf16 units = record { coding = Ucs2; units = units }

-- the text is not too long for one short message, which carries these octets
pub record Carries (text : Coded) (s : ShortMessage) : Type 0 where
  pub short : length text.units ≤ single_limit text.coding
  pub octets : s.octets.items ≡ short_message (whole text)
  pub coding : s.data_coding ≡ data_coding text.coding

-- the answer is that short message, or none where the text is too long for one
abbrev pub IsShortMessageOf : Coded → Option ShortMessage → Type 0
IsShortMessageOf text None = single_limit text.coding < length text.units
IsShortMessageOf text (Some s) = Carries text s
