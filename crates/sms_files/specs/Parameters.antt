-- Optional parameters as texts: four hexadecimal digits of the tag, a colon, and two of each octet of the value.
use Rattle.std.specs.Prelude.{◌≡◌, ℕ, ◌+◌, ◌-◌, ◌*◌, ◌<◌, ◌==◌, ◌&&◌, nat_le, List, [], ◌∷◌, length, take, Option, Some, None, option_and_then, option_map, slice_index_or, if◌then◌else◌}
use Rattle.sms_pdu.specs.declared.parameter.Parameter.{Parameter}

-- 0 to 9, a to f, or A to F
abbrev pub hex_value : ℕ → Option ℕ
hex_value c =
    if nat_le 48 c && nat_le c 57 then Some (c - 48)
    else (if nat_le 97 c && nat_le c 102 then Some (c - 87)
    else (if nat_le 65 c && nat_le c 70 then Some (c - 55) else None))

-- the octet of two digits
abbrev pub hex_octet : ℕ → ℕ → Option ℕ
hex_octet high low = option_and_then (λ h. option_map (λ l. 16 * h + l) (hex_value low)) (hex_value high)

-- the octets of pairs of digits
abbrev pub hex_octets : List ℕ → Option (List ℕ)
hex_octets [] = Some []
hex_octets (c ∷ []) = None
hex_octets (high ∷ (low ∷ cs)) = option_and_then (λ octet. option_map (λ octets. octet ∷ octets) (hex_octets cs)) (hex_octet high low)

-- the parameter of a tag of two octets
abbrev pub tagged : ℕ → ℕ → List ℕ → Parameter
tagged high low value = record { tag = 256 * high + low; value = value }

-- the parameter that a text spells
abbrev pub parameter_of : List ℕ → Option Parameter
parameter_of (a ∷ (b ∷ (c ∷ (d ∷ (colon ∷ digits))))) =
    if colon == 58 then option_and_then (λ high. option_and_then (λ low. option_map (tagged high low) (hex_octets digits)) (hex_octet c d)) (hex_octet a b) else None
parameter_of _ = None

-- those that texts spell
abbrev pub parameters_of : List (List ℕ) → Option (List Parameter)
parameters_of [] = Some []
parameters_of (text ∷ texts) = option_and_then (λ p. option_map (λ ps. p ∷ ps) (parameters_of texts)) (parameter_of text)

-- the text at this place spells none, and all before it do
pub record IsFirstBad (texts : List (List ℕ)) (place : ℕ) : Type 0 where
  pub there : place < length texts
  pub bad : parameter_of (slice_index_or texts place []) ≡ None
  pub parameters : List Parameter
  pub before : parameters_of (take place texts) ≡ Some parameters
