-- UTF-16 code units spell one text.
use Rattle.std.proofs.Common.{◌≡◌, ℕ, ◌<◌, ◌≤◌, ◌+◌, ◌-◌, ◌/◌, ◌%◌, List, [], ◌∷◌, ◌++◌, Some, is_some, not, true, false, refl, sym, ap, ◌∙◌, ◌⊎◌, inl, inr, arith, map, IsUtf8, chars}
use Rattle.std.proofs.lemmas.Bool.{and_parts, cases_lt, both_ways}
use Rattle.std.proofs.lemmas.Str.{encodes_same, encodes-chars, utf16_chars-nil, utf16_chars_lone, utf16_chars_pair}
use Rattle.std.specs.Str.{all_scalars}
use Rattle.std.specs.List.{list_any}
use Rattle.std.specs.Char.Escape.{encode_utf16}
use Rattle.std.specs.Char.Utf16.{utf16_chars, has_unpaired_surrogate, surrogate_pair_char}
use Rattle.std.proofs.str.Utf16.{one_unit, two_units, lone_unit_char_low, lone_unit_char_high}
use lib.Utf8.{scalar, scalar_cases}
use Rattle.std.specs.String.{IsUtf16Of}
use Rattle.sms_alphabet.specs.declared.coded.Coding.TheVariants.{Ucs2}
use Rattle.sms_alphabet.specs.Spelling.{IsText, ucs2_spelling}
use Rattle.sms_alphabet.specs.Reading.{SpellsNoText}

one_low : (c : ℕ) (us : List ℕ) → c < 0xD800 → utf16_chars (encode_utf16 c ++ us) ≡ Some c ∷ utf16_chars us
one_low c us low =
    ap (λ l. utf16_chars (l ++ us)) (one_unit c (omega arith)) ∙ utf16_chars_lone c us (λ pair. absurd (omega (arith, pair.0)))
    ∙ ap (λ o. o ∷ utf16_chars us) (lone_unit_char_low c low)

one_high : (c : ℕ) (us : List ℕ) → 0xE000 ≤ c → c < 0x1_0000 → utf16_chars (encode_utf16 c ++ us) ≡ Some c ∷ utf16_chars us
one_high c us from below =
    ap (λ l. utf16_chars (l ++ us)) (one_unit c below) ∙ utf16_chars_lone c us (λ pair. absurd (omega (arith, pair.1)))
    ∙ ap (λ o. o ∷ utf16_chars us) (lone_unit_char_high c from)

two : (c : ℕ) (us : List ℕ) → 0x1_0000 ≤ c → c < 0x11_0000 → utf16_chars (encode_utf16 c ++ us) ≡ Some c ∷ utf16_chars us
two c us from below =
    let joined : surrogate_pair_char (0xD800 + (c - 0x1_0000) / 0x400) (0xDC00 + (c - 0x1_0000) % 0x400) ≡ c = omega arith in
    ap (λ l. utf16_chars (l ++ us)) (two_units c from)
    ∙ utf16_chars_pair _ _ us (omega arith, omega arith, omega arith, omega arith)
    ∙ ap (λ n. Some n ∷ utf16_chars us) joined

one_more : (c : ℕ) (us : List ℕ) → (c < 0xD800) ⊎ ((0xE000 ≤ c) × (c < 0x11_0000)) → (c < 0x1_0000) ⊎ (0x1_0000 ≤ c)
    → utf16_chars (encode_utf16 c ++ us) ≡ Some c ∷ utf16_chars us
one_more c us (inl low) wide = one_low c us low
one_more c us (inr high) (inl narrow) = one_high c us high.0 narrow
one_more c us (inr high) (inr wide) = two c us wide high.1

-- the units of a text spell its characters
pub utf16_chars-spelling : (text : List ℕ) → IsText text → utf16_chars (ucs2_spelling text) ≡ map (λ c. Some c) text
utf16_chars-spelling [] is = utf16_chars-nil
utf16_chars-spelling (c ∷ cs) is =
    let parts = and_parts (scalar c) (all_scalars cs) is in
    one_more c (ucs2_spelling cs) (scalar_cases c parts.0) (cases_lt c 0x1_0000)
    ∙ ap (λ l. Some c ∷ l) (utf16_chars-spelling cs parts.1)

same_somes : (cs ds : List ℕ) → map (λ c. Some c) cs ≡ map (λ c. Some c) ds → cs ≡ ds
same_somes [] [] same = refl
same_somes [] (d ∷ ds) same = cc
same_somes (c ∷ cs) [] same = cc
same_somes (c ∷ cs) (d ∷ ds) same =
    let heads : c ≡ d = cc in
    let tails : map (λ c. Some c) cs ≡ map (λ c. Some c) ds = cc in
    ap (λ n. n ∷ cs) heads ∙ ap (λ l. d ∷ l) (same_somes cs ds tails)

-- one text has given units
pub same_ucs2_text : (text other : List ℕ) → IsText text → IsText other → ucs2_spelling text ≡ ucs2_spelling other → text ≡ other
same_ucs2_text text other is is_too same =
    same_somes text other (sym (utf16_chars-spelling text is) ∙ ap utf16_chars same ∙ utf16_chars-spelling other is_too)

all_somes : (text : List ℕ) → list_any (λ o. not (is_some o)) (map (λ c. Some c) text) ≡ false
all_somes [] = refl
all_somes (c ∷ cs) = all_somes cs

-- no text has an unpaired surrogate
pub paired : (text : List ℕ) → IsText text → has_unpaired_surrogate (ucs2_spelling text) ≡ false
paired text is = ap (list_any (λ o. not (is_some o))) (utf16_chars-spelling text is) ∙ all_somes text

-- the text that std reads is the one with these units
pub ucs2_read : (units bytes : List ℕ) → IsUtf16Of units bytes → IsUtf8 bytes → ucs2_spelling (chars bytes) ≡ units
ucs2_read units bytes (text, spelled, encoded) utf8 =
    ap ucs2_spelling (encodes_same (chars bytes) text (encodes-chars bytes utf8 ∙ encoded)) ∙ sym spelled

pub ucs2_never : (units : List ℕ) → has_unpaired_surrogate units ≡ true → SpellsNoText Ucs2 units
ucs2_never units unpaired = λ text is_text is.
    let same : ucs2_spelling text ≡ units = cc in
    both_ways (has_unpaired_surrogate units) (ap has_unpaired_surrogate (sym same) ∙ paired text is_text) unpaired
