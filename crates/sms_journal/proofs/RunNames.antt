-- The digits of 16 octets are a run's name.
use Rattle.std.proofs.Common.{◌≡◌, ℕ, suc, ◌<◌, ◌/◌, ◌%◌, Bool, true, List, [], ◌∷◌, Some, refl, ap, ◌∙◌, get_or, length, arith}
use Rattle.std.specs.Prelude.{◌&&◌, None, if◌then◌else◌}
use Rattle.std.specs.List.{list_all}
use Rattle.std.proofs.lemmas.Bool.{eq-eqb}
use Rattle.std.proofs.lemmas.Bool.Decides.{nat_tests}
use Rattle.std.proofs.lemmas.List.Concat.{flat_map-cons}
use Rattle.sms_ledger.specs.Names.{IsRun, is_hex, run_said}
use Rattle.sms_journal.specs.Digests.{AreOctets}
use Rattle.sms_journal.specs.Text.{hex_digit, hex_octet, hex_text}
use Rattle.sms_journal.proofs.DigestTexts.{hex_length}

pub are_octets : (octets : List ℕ) → ((i : ℕ) → get_or octets i 0 < 256) → AreOctets octets
are_octets [] low = tt
are_octets (c ∷ cs) low = (low 0, are_octets cs (λ i. low (suc i)))

digit_is_hex : (n : ℕ) → n < 16 → is_hex (hex_digit n) ≡ true
digit_is_hex n low = grind (arith, nat_tests)

digits_are_hex : (octets : List ℕ) → AreOctets octets → list_all is_hex (hex_text octets) ≡ true
digits_are_hex [] low = refl
digits_are_hex (c ∷ cs) low =
    ap (list_all is_hex) (flat_map-cons hex_octet c cs)
    ∙ ap (λ (b : Bool). b && list_all is_hex (hex_digit (c % 16) ∷ hex_text cs)) (digit_is_hex (c / 16) (omega (arith, low.0)))
    ∙ ap (λ (b : Bool). b && list_all is_hex (hex_text cs)) (digit_is_hex (c % 16) (omega (arith, low.0))) ∙ digits_are_hex cs low.1

pub is_run_name : (octets : List ℕ) → length octets ≡ 16 → AreOctets octets → IsRun (hex_text octets)
is_run_name octets long low =
    let count : length (hex_text octets) ≡ 32 = omega (arith, hex_length octets, long) in
    ap (λ (b : Bool). b && list_all is_hex (hex_text octets)) (eq-eqb (length (hex_text octets)) 32 count) ∙ digits_are_hex octets low

pub name_found : (octets : List ℕ) → length octets ≡ 16 → ((i : ℕ) → get_or octets i 0 < 256) → run_said (hex_text octets) ≡ Some (hex_text octets)
name_found octets long low = ap (λ (b : Bool). if b then Some (hex_text octets) else None) (is_run_name octets long (are_octets octets low))
