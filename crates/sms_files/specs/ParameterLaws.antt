-- A parameter by a text that spells it.
use Rattle.std.specs.Prelude.{◌≡◌, ℕ, ◌+◌, ◌/◌, ◌%◌, ◌<◌, nat_lt, List, [], ◌∷◌, All, Some, if◌then◌else◌}
use Rattle.sms_pdu.specs.declared.parameter.Parameter.{Parameter}
use Rattle.sms_files.specs.Parameters.{parameter_of}

-- the hexadecimal digit of a number below 16, and the two of an octet
abbrev pub hex_digit : ℕ → ℕ
hex_digit n = if nat_lt n 10 then 48 + n else 87 + n

abbrev pub octet_digits : ℕ → List ℕ → List ℕ
octet_digits octet rest = hex_digit (octet / 16) ∷ (hex_digit (octet % 16) ∷ rest)

abbrev pub value_digits : List ℕ → List ℕ
value_digits [] = []
value_digits (octet ∷ octets) = octet_digits octet (value_digits octets)

-- tag, colon, value
abbrev pub parameter_text : Parameter → List ℕ
parameter_text p = octet_digits (p.tag / 256) (octet_digits (p.tag % 256) (58 ∷ value_digits p.value))

-- each parameter can be asked for: it is read of its text
abbrev pub ParametersAreReadBack : Type 0
ParametersAreReadBack = (p : Parameter) → p.tag < 65536 → All (λ octet. octet < 256) p.value → parameter_of (parameter_text p) ≡ Some p
