-- The look-ups of the code agree with the alphabet's table.
use Rattle.std.proofs.Common.{◌≡◌, ◌≢◌, ℕ, ◌/◌, ◌%◌, ◌<◌, inl, inr, Bool, true, false, not, ◌&&◌, ◌||◌, eqb, ltb, leb, List, [], ◌∷◌, get_or, Option, None, Some, refl, ap}
use Rattle.std.proofs.lemmas.Bool.{true≢false, eqb-true, eqb-false, ne_eqb, ltb-true, and_parts, or_cases, not-true, agree_below, agree_below_at}
use Rattle.std.proofs.lemmas.Slice.Eq.{bytes_eq-Decides}
use Rattle.std.specs.List.{list_all, list_any}
use Rattle.std.specs.Str.{bytes_eq}
use Rattle.sms_alphabet.specs.declared.alphabet.TheConstants.{LATIN_CODES, CHARACTERS}
use Rattle.sms_alphabet.specs.Alphabet.{default_alphabet, codes_of, is_plain, escape}
use Rattle.sms_alphabet.proofs.Table.{alphabet_passes}

bytes_eq-true : (xs ys : List ℕ) → bytes_eq xs ys ≡ true → xs ≡ ys
bytes_eq-true xs ys same = (bytes_eq-Decides xs ys).0 same

-- a look-up found these codes
abbrev is_found : Option (List ℕ) → List ℕ → Bool
is_found None codes = false
is_found (Some found) codes = bytes_eq found codes

found_codes : (found : Option (List ℕ)) (codes : List ℕ) → is_found found codes ≡ true → found ≡ Some codes
found_codes None codes is = cc
found_codes (Some found) codes is = ap (λ l. Some l) (bytes_eq-true found codes is)

none_found : (found : Option (List ℕ)) → ((codes : List ℕ) → found ≡ Some codes → ⊥) → found ≡ None
none_found None never = refl
none_found (Some codes) never = absurd (never codes refl)

-- the direct table: the escape, or the one code of the character
latin_agrees : agree_below (λ n. eqb (get_or LATIN_CODES n 0) escape || is_found (codes_of n) (get_or LATIN_CODES n 0 ∷ [])) (λ _. true) 256 ≡ true
unfolding codes_of default_alphabet
latin_agrees = refl

pub latin_code : (c : ℕ) → c < 256 → get_or LATIN_CODES c 0 ≢ escape → codes_of c ≡ Some (get_or LATIN_CODES c 0 ∷ [])
latin_code c below other =
    let same : (eqb (get_or LATIN_CODES c 0) escape || is_found (codes_of c) (get_or LATIN_CODES c 0 ∷ [])) ≡ true =
    agree_below_at (λ n. eqb (get_or LATIN_CODES n 0) escape || is_found (codes_of n) (get_or LATIN_CODES n 0 ∷ [])) (λ _. true) 256 c latin_agrees below in
    elim (or_cases (eqb (get_or LATIN_CODES c 0) escape) (is_found (codes_of c) (get_or LATIN_CODES c 0 ∷ [])) same) [
      | inl is ↦ absurd (other (eqb-true _ _ is))
      | inr is ↦ found_codes (codes_of c) (get_or LATIN_CODES c 0 ∷ []) is
    ]

-- the ranges of the characters of ASCII that have one code
abbrev pub in_plain_ranges : ℕ → Bool
in_plain_ranges c = (leb 32 c && leb c 90) || (leb 97 c && leb c 122) || eqb c 95 || eqb c 10 || eqb c 13

ranges_agree : agree_below in_plain_ranges is_plain 256 ≡ true
unfolding codes_of default_alphabet
ranges_agree = refl

pub plain_ranges : (c : ℕ) → c < 256 → in_plain_ranges c ≡ is_plain c
plain_ranges c below = agree_below_at in_plain_ranges is_plain 256 c ranges_agree below

-- but for three, such a character is its own code
abbrev is_own : ℕ → Bool
is_own c = not (is_plain c) || (eqb c 64 || (eqb c 36 || (eqb c 95 || is_found (codes_of c) (c ∷ []))))

own_codes_agree : agree_below is_own (λ _. true) 128 ≡ true
unfolding codes_of default_alphabet
own_codes_agree = refl

left_over : (x y : Bool) → (x || y) ≡ true → x ≡ false → y ≡ true
left_over true y either not_left = absurd (true≢false not_left)
left_over false y either not_left = either

pub own_code : (c : ℕ) → is_plain c ≡ true → c ≢ 64 → c ≢ 36 → c ≢ 95 → codes_of c ≡ Some (c ∷ [])
own_code c plain no_at no_dollar no_low_line =
    let below = ltb-true c 128 (and_parts _ _ plain).0 in
    let own : is_own c ≡ true = agree_below_at is_own (λ _. true) 128 c own_codes_agree below in
    found_codes (codes_of c) (c ∷ [])
    (left_over _ _ (left_over _ _ (left_over _ _ (left_over _ _ own (ap not plain)) (ne_eqb c 64 no_at)) (ne_eqb c 36 no_dollar)) (ne_eqb c 95 no_low_line))

-- the character in a code's row, at its place there
abbrev pub character_at : ℕ → ℕ
character_at code = get_or (get_or CHARACTERS (code / 16) []) (code % 16) 0

characters_agree : agree_below (λ n. eqb n escape || is_found (codes_of (character_at n)) (n ∷ [])) (λ _. true) 128 ≡ true
unfolding codes_of default_alphabet
characters_agree = refl

pub basic_code : (code : ℕ) → code < 128 → code ≢ escape → codes_of (character_at code) ≡ Some (code ∷ [])
basic_code code below other =
    let same : (eqb code escape || is_found (codes_of (character_at code)) (code ∷ [])) ≡ true =
    agree_below_at (λ n. eqb n escape || is_found (codes_of (character_at n)) (n ∷ [])) (λ _. true) 128 code characters_agree below in
    elim (or_cases (eqb code escape) (is_found (codes_of (character_at code)) (code ∷ [])) same) [
      | inl is ↦ absurd (other (eqb-true _ _ is))
      | inr is ↦ found_codes (codes_of (character_at code)) (code ∷ []) is
    ]

-- n is none of the numbers
abbrev pub NoneOf : List ℕ → ℕ → Type 0
NoneOf [] n = Unit {0}
NoneOf (x ∷ xs) n = (n ≢ x) × NoneOf xs n

none_of : (xs : List ℕ) (n : ℕ) → NoneOf xs n → list_any (λ x. eqb n x) xs ≡ true → ⊥
none_of [] n others any = cc
none_of (x ∷ xs) n others any = elim (or_cases (eqb n x) (list_any (λ x. eqb n x) xs) any) [
  | inl is ↦ others.0 (eqb-true n x is)
  | inr later ↦ none_of xs n others.1 later
]

-- the characters that aren't in the direct table
abbrev pub beyond_latin : List ℕ
beyond_latin =
    915 ∷ 916 ∷ 920 ∷ 923 ∷ 926 ∷ 928 ∷ 931 ∷ 934 ∷ 936 ∷ 937 ∷ 12 ∷ 91 ∷ 92 ∷ 93 ∷ 94 ∷ 123 ∷ 124 ∷ 125 ∷ 126 ∷ 8364 ∷ []

each_has_place : list_all (λ p. (ltb p.0 256 && not (eqb (get_or LATIN_CODES p.0 0) escape)) || list_any (λ x. eqb p.0 x) beyond_latin) default_alphabet ≡ true
unfolding default_alphabet
each_has_place = refl

pub no_code : (c : ℕ) → (c < 256 → get_or LATIN_CODES c 0 ≡ escape) → NoneOf beyond_latin c → codes_of c ≡ None
no_code c lacks others = none_found (codes_of c)
    (λ codes is. elim (or_cases (ltb c 256 && not (eqb (get_or LATIN_CODES c 0) escape)) (list_any (λ x. eqb c x) beyond_latin)
    (alphabet_passes (λ p. (ltb p.0 256 && not (eqb (get_or LATIN_CODES p.0 0) escape)) || list_any (λ x. eqb p.0 x) beyond_latin) c codes each_has_place is)) [
      | inl latin ↦ (let both = and_parts (ltb c 256) (not (eqb (get_or LATIN_CODES c 0) escape)) latin in
          eqb-false (get_or LATIN_CODES c 0) escape (not-true _ both.1) (lacks (ltb-true c 256 both.0)))
      | inr beyond ↦ none_of beyond_latin c others beyond
    ])

-- the codes of the extension table
abbrev pub extension_codes : List ℕ
extension_codes = 10 ∷ 20 ∷ 40 ∷ 41 ∷ 47 ∷ 60 ∷ 61 ∷ 62 ∷ 64 ∷ 101 ∷ []

-- where there are two codes, the second is of the extension table
abbrev ends_in_extension : List ℕ → Bool
ends_in_extension [] = true
ends_in_extension (e ∷ []) = true
ends_in_extension (e ∷ k ∷ ks) = list_any (λ x. eqb k x) extension_codes

each_extension : list_all (λ p. ends_in_extension p.1) default_alphabet ≡ true
unfolding default_alphabet
each_extension = refl

pub no_extension : (code : ℕ) → NoneOf extension_codes code → (c : ℕ) → codes_of c ≡ Some (escape ∷ code ∷ []) → ⊥
no_extension code others c is =
    none_of extension_codes code others (alphabet_passes (λ p. ends_in_extension p.1) c (escape ∷ code ∷ []) each_extension is)
