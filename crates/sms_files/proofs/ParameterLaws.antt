-- A parameter, read of the text that spells it.
use Rattle.std.proofs.Common.{◌≡◌, inl, inr, ℕ, suc, ◌+◌, ◌/◌, ◌%◌, ◌<◌, ◌≤◌, List, [], ◌∷◌, Some, arith, ap, refl}
use Rattle.std.proofs.Math.Nat.{div-add-mod}
use Rattle.std.proofs.lemmas.Bool.{cases_Bool, le-leb, leb-false, leb-true, lt-leb}
use Rattle.std.specs.Prelude.{All, nat_lt}
use Rattle.sms_files.specs.Parameters.{hex_octet, hex_octets, hex_value}
use Rattle.sms_files.specs.ParameterLaws.{ParametersAreReadBack, hex_digit, value_digits}

low_digit : (n : ℕ) → n < 10 → hex_value (48 + n) ≡ Some n
low_digit n h = rw (le-leb 48 (48 + n) (omega arith), le-leb (48 + n) 57 (omega arith)) (ap Some (omega arith))

high_digit : (n : ℕ) → 10 ≤ n → n < 16 → hex_value (87 + n) ≡ Some n
high_digit n l h = rw (le-leb 48 (87 + n) (omega arith), lt-leb (87 + n) 57 (omega arith), le-leb 97 (87 + n) (omega arith), le-leb (87 + n) 102 (omega arith)) (ap Some (omega arith))

digit_read : (n : ℕ) → n < 16 → hex_value (hex_digit n) ≡ Some n
digit_read n h = elim (cases_Bool (nat_lt n 10)) [
  | inl e ↦ rw e (low_digit n (leb-true (suc n) 10 e))
  | inr e ↦ rw e (high_digit n (let more = leb-false (suc n) 10 e in omega arith) h)
]

octet_read : (n : ℕ) → n < 256 → hex_octet (hex_digit (n / 16)) (hex_digit (n % 16)) ≡ Some n
octet_read n h = rw (digit_read (n / 16) (omega arith), digit_read (n % 16) (omega arith)) (ap Some (let d = div-add-mod n 16 in omega arith))

value_read : (octets : List ℕ) → All (λ octet. octet < 256) octets → hex_octets (value_digits octets) ≡ Some octets
value_read [] h = refl
value_read (octet ∷ octets) h = rw (octet_read octet (h 0 0 (omega arith)), value_read octets (λ k d low. h (suc k) d (omega arith))) refl

pub parameters_read : ParametersAreReadBack
parameters_read p few small = rw (octet_read (p.tag / 256) (omega arith), octet_read (p.tag % 256) (omega arith), value_read p.value small) (let d = div-add-mod p.tag 256 in ap (λ (tag : ℕ). Some (record { tag = tag; value = p.value })) (omega arith))
