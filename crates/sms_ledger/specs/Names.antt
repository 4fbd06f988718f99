-- Names of accounts, of runs and of payments, as the lines of a ledger spell them.
use Rattle.std.specs.Prelude.{◌≡◌, ℕ, ◌==◌, ◌&&◌, ◌||◌, ◌*◌, ◌+◌, ◌-◌, ◌%◌, not, nat_le, nat_lt, Bool, true, false, List, [], ◌∷◌, length, Option, Some, None, if◌then◌else◌, ◌/◌, ◌<◌, ⊤, flat_map}
use Rattle.std.specs.List.{list_all}
use Rattle.sms_ledger.specs.declared.escape.Escape.{Escape}
use Rattle.sms_ledger.specs.declared.escape.Escape.TheVariants.{Plain, First, Second, Wrong}

-- a visible ASCII character but comma, quote and percent, which stands for itself
abbrev pub is_plain : ℕ → Bool
is_plain c = (nat_le 0x21 c && nat_le c 0x7E) && (not (c == 0x22) && (not (c == 0x25) && not (c == 0x2C)))

abbrev pub is_hex : ℕ → Bool
is_hex c = (nat_le 48 c && nat_le c 57) || (nat_le 97 c && nat_le c 102)

-- a hexadecimal digit's value
abbrev pub digit_in : ℕ → ℕ
digit_in c = (if nat_lt c 97 then c - 48 else c - 87) % 16

-- octets as a journal spells them: a percent and two digits stand for an octet that is not plain, and each other octet for itself. So octets
-- have one spelling, and two names are one where their octets are
abbrev pub is_escaped : Escape → List ℕ → Bool
is_escaped Plain [] = true
is_escaped First [] = false
is_escaped (Second digit) [] = false
is_escaped Wrong [] = false
is_escaped Plain (c ∷ cs) = if c == 0x25 then is_escaped First cs else is_plain c && is_escaped Plain cs
is_escaped First (c ∷ cs) = is_hex c && is_escaped (Second (digit_in c)) cs
is_escaped (Second digit) (c ∷ cs) = is_hex c && (not (is_plain (digit * 16 + digit_in c)) && is_escaped Plain cs)
is_escaped Wrong (c ∷ cs) = false

abbrev pub hex_digit : ℕ → ℕ
hex_digit n = if nat_lt n 10 then 48 + n else 87 + n

abbrev pub octet_text : ℕ → List ℕ
octet_text c = if is_plain c then c ∷ [] else 0x25 ∷ hex_digit (c / 16) ∷ hex_digit (c % 16) ∷ []

-- the spelling of octets
abbrev pub octets_text : List ℕ → List ℕ
octets_text octets = flat_map octet_text octets

abbrev pub AreOctets : List ℕ → Type 0
AreOctets [] = ⊤
AreOctets (c ∷ cs) = (c < 256) × AreOctets cs

-- octets are spelled as names are
abbrev pub OctetsAreSpelled : Type 0
OctetsAreSpelled = (octets : List ℕ) → AreOctets octets → is_escaped Plain (octets_text octets) ≡ true

-- and no two alike
abbrev pub SpellingsAreOne : Type 0
SpellingsAreOne = (octets others : List ℕ) → AreOctets octets → AreOctets others → octets_text octets ≡ octets_text others → octets ≡ others

-- 1 to 192 characters, which can spell 64 octets or more
abbrev pub is_name : List ℕ → Bool
is_name text = not (length text == 0) && (nat_le (length text) 192 && is_escaped Plain text)

-- a run's name: 32 hexadecimal digits
abbrev pub is_run : List ℕ → Bool
is_run text = length text == 32 && list_all is_hex text

abbrev pub IsName : List ℕ → Type 0
IsName text = is_name text ≡ true

abbrev pub IsRun : List ℕ → Type 0
IsRun text = is_run text ≡ true

abbrev pub name_said : List ℕ → Option (List ℕ)
name_said text = if is_name text then Some text else None

abbrev pub run_said : List ℕ → Option (List ℕ)
run_said text = if is_run text then Some text else None
