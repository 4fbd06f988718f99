-- The characters of names.
use Rattle.std.proofs.Common.{◌≡◌, ℕ, suc, ◌+◌, ◌<◌, Bool, true, false, List, [], ◌∷◌, length, refl, arith, ◌*◌, get_or, zero, true≢false, sym}
use Rattle.std.specs.Prelude.{◌==◌, nat_le, if◌then◌else◌, ⊤, not, ◌&&◌}
use Rattle.std.specs.List.{list_all}
use Rattle.std.proofs.lemmas.Bool.{and_parts}
use Rattle.std.proofs.lemmas.Bool.Decides.{nat_tests}
use Rattle.sms_ledger.specs.declared.escape.Escape.{Escape}
use Rattle.sms_ledger.specs.declared.escape.Escape.TheVariants.{Plain, First, Second, Wrong}
use Rattle.sms_ledger.specs.Names.{IsName, IsRun, digit_in, is_escaped, is_hex, is_plain}
use Rattle.sms_ledger.specs.Reading.{is_end}

-- no field ends in this text
abbrev pub HasNoEnd : List ℕ → Type 0
HasNoEnd [] = ⊤
HasNoEnd (c ∷ cs) = (is_end c ≡ false) × HasNoEnd cs

-- ---- names

no_end_plain : (c : ℕ) → is_plain c ≡ true → is_end c ≡ false
no_end_plain c h = grind (arith, nat_tests)

no_end_hex : (c : ℕ) → is_hex c ≡ true → is_end c ≡ false
no_end_hex c h = grind (arith, nat_tests)

no_end_percent : (c : ℕ) → (c == 0x25) ≡ true → is_end c ≡ false
no_end_percent c h = grind (arith, nat_tests)

escaped_text : (escape : Escape) (cs : List ℕ) → is_escaped escape cs ≡ true → HasNoEnd cs
escaped_text Plain [] h = tt
escaped_text First [] h = tt
escaped_text (Second digit) [] h = tt
escaped_text Wrong [] h = tt
escaped_text Wrong (c ∷ cs) h = absurd (true≢false (sym h))
escaped_text Plain (c ∷ cs) h = here (c == 0x25) refl h (escaped_text First cs) (escaped_text Plain cs)
  where
    here : (b : Bool) → (c == 0x25) ≡ b → (if b then is_escaped First cs else is_plain c && is_escaped Plain cs) ≡ true → (is_escaped First cs ≡ true → HasNoEnd cs) → (is_escaped Plain cs ≡ true → HasNoEnd cs) → HasNoEnd (c ∷ cs)
    here true is h first plain = (no_end_percent c is, first h)
    here false is h first plain = let p = and_parts (is_plain c) (is_escaped Plain cs) h in (no_end_plain c p.0, plain p.1)
escaped_text First (c ∷ cs) h = let p = and_parts (is_hex c) (is_escaped (Second (digit_in c)) cs) h in (no_end_hex c p.0, escaped_text (Second (digit_in c)) cs p.1)
escaped_text (Second digit) (c ∷ cs) h =
    let p = and_parts (is_hex c) (not (is_plain (digit * 16 + digit_in c)) && is_escaped Plain cs) h in
    (no_end_hex c p.0, escaped_text Plain cs (and_parts (not (is_plain (digit * 16 + digit_in c))) (is_escaped Plain cs) p.1).1)

low_percent : (c : ℕ) → (c == 0x25) ≡ true → c < 128
low_percent c h = grind (arith, nat_tests)

low_plain : (c : ℕ) → is_plain c ≡ true → c < 128
low_plain c h = grind (arith, nat_tests)

low_hex : (c : ℕ) → is_hex c ≡ true → c < 128
low_hex c h = grind (arith, nat_tests)

abbrev AreLow : List ℕ → Type 0
AreLow cs = (k d : ℕ) → k < length cs → get_or cs k d < 128

low_more : (c : ℕ) (cs : List ℕ) → c < 128 → AreLow cs → AreLow (c ∷ cs)
low_more c cs low h zero d below = low
low_more c cs low h (suc k) d below = h k d (omega (arith, below))

low_none : AreLow []
low_none k d below = absurd (omega (arith, below))

-- a name's characters are ASCII
pub low_text : (escape : Escape) (cs : List ℕ) → is_escaped escape cs ≡ true → (k d : ℕ) → k < length cs → get_or cs k d < 128
low_text Plain [] h = low_none
low_text First [] h = low_none
low_text (Second digit) [] h = low_none
low_text Wrong [] h = low_none
low_text Wrong (c ∷ cs) h = absurd (true≢false (sym h))
low_text Plain (c ∷ cs) h = here (c == 0x25) refl h (low_text First cs) (low_text Plain cs)
  where
    here : (b : Bool) → (c == 0x25) ≡ b → (if b then is_escaped First cs else is_plain c && is_escaped Plain cs) ≡ true → (is_escaped First cs ≡ true → AreLow cs) → (is_escaped Plain cs ≡ true → AreLow cs) → AreLow (c ∷ cs)
    here true is h first plain = low_more c cs (low_percent c is) (first h)
    here false is h first plain = let p = and_parts (is_plain c) (is_escaped Plain cs) h in low_more c cs (low_plain c p.0) (plain p.1)
low_text First (c ∷ cs) h = let p = and_parts (is_hex c) (is_escaped (Second (digit_in c)) cs) h in low_more c cs (low_hex c p.0) (low_text (Second (digit_in c)) cs p.1)
low_text (Second digit) (c ∷ cs) h =
    let p = and_parts (is_hex c) (not (is_plain (digit * 16 + digit_in c)) && is_escaped Plain cs) h in
    low_more c cs (low_hex c p.0) (low_text Plain cs (and_parts (not (is_plain (digit * 16 + digit_in c))) (is_escaped Plain cs) p.1).1)

pub low_name : (name : List ℕ) → IsName name → (k d : ℕ) → k < length name → get_or name k d < 128
low_name name h = low_text Plain name (and_parts (nat_le (length name) 192) (is_escaped Plain name) (and_parts (not (length name == 0)) (nat_le (length name) 192 && is_escaped Plain name) h).1).1

hex_text : (cs : List ℕ) → list_all is_hex cs ≡ true → HasNoEnd cs
hex_text [] h = tt
hex_text (c ∷ cs) h = let p = and_parts (is_hex c) (list_all is_hex cs) h in (no_end_hex c p.0, hex_text cs p.1)

pub no_end_name : (name : List ℕ) → IsName name → HasNoEnd name
no_end_name name h = escaped_text Plain name (and_parts (nat_le (length name) 192) (is_escaped Plain name) (and_parts (not (length name == 0)) (nat_le (length name) 192 && is_escaped Plain name) h).1).1

pub no_end_run : (run : List ℕ) → IsRun run → HasNoEnd run
no_end_run run h = hex_text run (and_parts (length run == 32) (list_all is_hex run) h).1
