-- Octets as a journal spells them: a percent and two digits stand for an octet that is not plain, and each other octet for itself.
use Rattle.std.specs.Prelude.{◌≡◌, ℕ, ◌==◌, ◌&&◌, ◌*◌, ◌+◌, ◌-◌, ◌%◌, ◌/◌, ◌<◌, ⊤, not, nat_le, nat_lt, Bool, List, [], ◌∷◌, flat_map, if◌then◌else◌}
use Rattle.sms_inbox.specs.declared.escape.Escape.{Escape}
use Rattle.sms_inbox.specs.declared.escape.Escape.TheVariants.{Plain, First, Second}

-- a visible ASCII character but comma, quote and percent, which stands for itself
abbrev pub is_plain : ℕ → Bool
is_plain c = (nat_le 0x21 c && nat_le c 0x7E) && (not (c == 0x22) && (not (c == 0x25) && not (c == 0x2C)))

abbrev pub hex_digit : ℕ → ℕ
hex_digit n = if nat_lt n 10 then 48 + n else 87 + n

abbrev pub octet_text : ℕ → List ℕ
octet_text c = if is_plain c then c ∷ [] else 0x25 ∷ hex_digit (c / 16) ∷ hex_digit (c % 16) ∷ []

-- the spelling of octets
abbrev pub octets_text : List ℕ → List ℕ
octets_text octets = flat_map octet_text octets

abbrev pub AreOctets : List ℕ → Type 0
AreOctets [] = ⊤
AreOctets (c ∷ cs) = (c < 256) × AreOctets cs

-- a hexadecimal digit's value
abbrev pub digit_in : ℕ → ℕ
digit_in c = (if nat_lt c 97 then c - 48 else c - 87) % 16

-- the octets that a spelling says. Of a text that spells none it says something else, whose spelling is another
abbrev pub octets_in : Escape → List ℕ → List ℕ
octets_in escape [] = []
octets_in Plain (c ∷ cs) = if c == 0x25 then octets_in First cs else c ∷ octets_in Plain cs
octets_in First (c ∷ cs) = octets_in (Second (digit_in c)) cs
octets_in (Second digit) (c ∷ cs) = (digit % 16 * 16 + digit_in c) ∷ octets_in Plain cs

-- octets are read from their spelling
abbrev pub OctetsAreRead : Type 0
OctetsAreRead = (octets : List ℕ) → AreOctets octets → octets_in Plain (octets_text octets) ≡ octets

-- and no two are spelled alike
abbrev pub SpellingsAreOne : Type 0
SpellingsAreOne = (octets others : List ℕ) → AreOctets octets → AreOctets others → octets_text octets ≡ octets_text others → octets ≡ others
