-- How large the units of a lawful coded text are.
use Rattle.std.proofs.Common.{◌≡◌, ℕ, ◌<◌, ◌≤◌, ◌^◌, ◌+◌, ◌-◌, ◌/◌, ◌%◌, ltb, List, [], ◌∷◌, Some, refl, sym, subst, ◌⊎◌, inl, inr, arith, true}
use Rattle.std.proofs.lemmas.Bool.{ltb-true, and_parts, cases_lt}
use Rattle.std.proofs.lemmas.List.Sums.{AllPass-from_list_all}
use Rattle.std.proofs.lemmas.List.Elements.{All-nil, All-cons, All-append}
use Rattle.std.specs.List.{list_all, All}
use Rattle.std.specs.Str.{all_scalars}
use Rattle.std.specs.Char.Escape.{encode_utf16}
use Rattle.std.proofs.str.Utf16.{one_unit, two_units}
use lib.Utf8.{scalar, scalar_cases}
use Rattle.sms_alphabet.specs.Alphabet.{default_alphabet, codes_of}
use Rattle.sms_alphabet.specs.Spelling.{IsText, gsm_spelling, ucs2_spelling}
use Rattle.sms_alphabet.proofs.Table.{alphabet_passes}
use Rattle.sms_alphabet.proofs.Codes.{parts_of}

each_is_low : list_all (λ p. list_all (λ k. ltb k 128) p.1) default_alphabet ≡ true
unfolding default_alphabet
each_is_low = refl

low_codes : (c : ℕ) (codes : List ℕ) → codes_of c ≡ Some codes → All (λ k. k < 128) codes
low_codes c codes is = λ k d within.
    ltb-true _ 128 (AllPass-from_list_all (λ k. ltb k 128) codes (alphabet_passes (λ p. list_all (λ k. ltb k 128) p.1) c codes each_is_low is) k d within)

pub gsm_units_fit : (text units : List ℕ) → gsm_spelling text ≡ Some units → All (λ unit. unit < 128) units
gsm_units_fit [] units is =
    let none : [] ≡ units = cc in
    subst (λ (l : List ℕ). All (λ unit. unit < 128) l) none (All-nil (λ unit. unit < 128))
gsm_units_fit (c ∷ cs) units is =
    let parts = parts_of (codes_of c) (gsm_spelling cs) units is in
    subst (λ (l : List ℕ). All (λ unit. unit < 128) l) parts.all_is
    (All-append (λ unit. unit < 128) parts.first parts.later (low_codes c parts.first parts.first_is) (gsm_units_fit cs parts.later parts.later_is))

fits_one : (c : ℕ) → (c < 0x1_0000) ⊎ (0x1_0000 ≤ c) → c < 0x11_0000 → All (λ unit. unit < 2 ^ 16) (encode_utf16 c)
fits_one c (inl narrow) below =
    subst (λ (l : List ℕ). All (λ unit. unit < 2 ^ 16) l) (sym (one_unit c narrow))
    (All-cons (λ unit. unit < 2 ^ 16) c [] (omega arith) (All-nil (λ unit. unit < 2 ^ 16)))
fits_one c (inr wide) below =
    subst (λ (l : List ℕ). All (λ unit. unit < 2 ^ 16) l) (sym (two_units c wide))
    (All-cons (λ unit. unit < 2 ^ 16) (0xD800 + (c - 0x1_0000) / 0x400) ((0xDC00 + (c - 0x1_0000) % 0x400) ∷ []) (omega arith)
    (All-cons (λ unit. unit < 2 ^ 16) (0xDC00 + (c - 0x1_0000) % 0x400) [] (omega arith) (All-nil (λ unit. unit < 2 ^ 16))))

scalar_below : (c : ℕ) → (c < 0xD800) ⊎ ((0xE000 ≤ c) × (c < 0x11_0000)) → c < 0x11_0000
scalar_below c (inl low) = omega arith
scalar_below c (inr high) = high.1

pub ucs2_units_fit : (text : List ℕ) → IsText text → All (λ unit. unit < 2 ^ 16) (ucs2_spelling text)
ucs2_units_fit [] is = All-nil (λ unit. unit < 2 ^ 16)
ucs2_units_fit (c ∷ cs) is =
    let parts = and_parts (scalar c) (all_scalars cs) is in
    All-append (λ unit. unit < 2 ^ 16) (encode_utf16 c) (ucs2_spelling cs)
    (fits_one c (cases_lt c 0x1_0000) (scalar_below c (scalar_cases c parts.0))) (ucs2_units_fit cs parts.1)
