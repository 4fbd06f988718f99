-- The groups of units that a cutting keeps whole: an escape and the code after it (3GPP TS 23.038
-- 6.2.1.1), a high and a low surrogate (RFC 2781 2.1), and each other unit alone.
use Rattle.std.specs.Prelude.{ℕ, Bool, true, ◌&&◌, ◌==◌, nat_le, nat_lt, List, [], ◌∷◌, if◌then◌else◌}
use Rattle.sms_alphabet.specs.declared.coded.Coding.{Coding}
use Rattle.sms_alphabet.specs.declared.coded.Coding.TheVariants.{Gsm, Ucs2}
use Rattle.sms_alphabet.specs.Alphabet.{escape}

-- the first unit of a pair: the escape to the extension table, or a high surrogate
abbrev pub opens : Coding → ℕ → Bool
opens Gsm unit = unit == escape
opens Ucs2 unit = nat_le 0xD800 unit && nat_lt unit 0xDC00

-- the second unit of a pair: whatever code follows the escape, or a low surrogate
abbrev pub closes : Coding → ℕ → Bool
closes Gsm unit = true
closes Ucs2 unit = nat_le 0xDC00 unit && nat_lt unit 0xE000

abbrev pub is_pair : Coding → ℕ → ℕ → Bool
is_pair coding first second = opens coding first && closes coding second

-- the groups of a text, from its start
abbrev pub groups : Coding → List ℕ → List (List ℕ)
groups coding [] = []
groups coding (x ∷ []) = (x ∷ []) ∷ []
groups coding (x ∷ (y ∷ units)) =
    if is_pair coding x y then ((x ∷ (y ∷ [])) ∷ groups coding units) else ((x ∷ []) ∷ groups coding (y ∷ units))
