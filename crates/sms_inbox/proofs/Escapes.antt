-- Octets and their spelling.
use Rattle.std.proofs.Common.{◌≡◌, ℕ, suc, zero, ◌+◌, ◌*◌, ◌/◌, ◌%◌, ◌<◌, ◌≤◌, Bool, true, false, List, [], ◌∷◌, ◌++◌, length, get_or, inl, inr, refl, sym, ap, ◌∙◌, arith}
use Rattle.std.specs.Prelude.{◌==◌, nat_lt, if◌then◌else◌}
use Rattle.std.proofs.lemmas.Bool.{cases_Bool, ltb-true, ltb-false}
use Rattle.std.proofs.lemmas.Bool.Decides.{nat_tests}
use Rattle.std.proofs.lemmas.List.Concat.{flat_map-cons}
use Rattle.sms_inbox.specs.declared.escape.Escape.TheVariants.{Plain, First}
use Rattle.sms_inbox.specs.Escape.{AreOctets, OctetsAreRead, SpellingsAreOne, digit_in, hex_digit, is_plain, octet_text, octets_in, octets_text}

digit_back : (n : ℕ) → n < 16 → digit_in (hex_digit n) ≡ n
digit_back n low = elim (cases_Bool (nat_lt n 10)) [
  | inl e ↦ let small : n < 10 = ltb-true n 10 e in grind (arith, nat_tests)
  | inr e ↦ let great : 10 ≤ n = ltb-false n 10 e in grind (arith, nat_tests)
]

no_percent : (c : ℕ) → is_plain c ≡ true → (c == 0x25) ≡ false
no_percent c h = grind (arith, nat_tests)

join : (a b c : ℕ) → a ≡ c / 16 → b ≡ c % 16 → c < 256 → a % 16 * 16 + b ≡ c
join a b c ea eb low = let small : a % 16 ≡ a = omega (arith, ea, low) in omega (arith, ea, eb, small)

value : (c : ℕ) → c < 256 → digit_in (hex_digit (c / 16)) % 16 * 16 + digit_in (hex_digit (c % 16)) ≡ c
value c low = join (digit_in (hex_digit (c / 16))) (digit_in (hex_digit (c % 16))) c (digit_back (c / 16) (omega arith)) (digit_back (c % 16) (omega arith)) low

octet_back : (c : ℕ) (rest : List ℕ) → c < 256 → octets_in Plain (octet_text c ++ rest) ≡ c ∷ octets_in Plain rest
octet_back c rest low = here (is_plain c) refl
  where
    here : (b : Bool) → is_plain c ≡ b → octets_in Plain ((if b then c ∷ [] else 0x25 ∷ hex_digit (c / 16) ∷ hex_digit (c % 16) ∷ []) ++ rest) ≡ c ∷ octets_in Plain rest
    here true e = ap (λ (b : Bool). if b then octets_in First rest else c ∷ octets_in Plain rest) (no_percent c e)
    here false e = ap (λ (n : ℕ). n ∷ octets_in Plain rest) (value c low)

pub octets_back : OctetsAreRead
octets_back [] h = refl
octets_back (c ∷ cs) h = ap (octets_in Plain) (flat_map-cons octet_text c cs) ∙ octet_back c (octets_text cs) h.0 ∙ ap (λ (l : List ℕ). c ∷ l) (octets_back cs h.1)

pub spellings_one : SpellingsAreOne
spellings_one a b ha hb e = sym (octets_back a ha) ∙ ap (octets_in Plain) e ∙ octets_back b hb

-- numbers below 256 are octets
pub are_octets : (cs : List ℕ) → ((k : ℕ) → k < length cs → get_or cs k 0 < 256) → AreOctets cs
are_octets [] h = tt
are_octets (c ∷ cs) h = (h zero (omega arith), are_octets cs (λ k low. h (suc k) (omega (arith, low))))
