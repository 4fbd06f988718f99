-- The rule of the alphabet's table, and what a look-up that finds says.
use Rattle.std.proofs.Common.{◌≡◌, ◌≢◌, ℕ, ◌<◌, Bool, true, false, not, cond, ◌&&◌, eqb, ltb, List, [], ◌∷◌, Option, Some, refl, sym, subst, ◌∙◌}
use Rattle.std.proofs.lemmas.Bool.{eqb-true, eqb-false, eq-eqb, ltb-true, and_parts, and_from, not-true, both_ways}
use Rattle.std.specs.List.{list_all}
use Rattle.std.specs.Str.{bytes_eq}
use lib.Utf8.{scalar}
use Rattle.sms_alphabet.specs.Alphabet.{default_alphabet, codes_in, codes_of, escape}

-- a test that each pair of a table passes is passed by what a look-up there finds
found_at : (test : ℕ × List ℕ → Bool) (p : ℕ × List ℕ) (found : Option (List ℕ)) (c : ℕ) (codes : List ℕ) (same : Bool)
    → eqb p.0 c ≡ same → test p ≡ true → cond same (Some p.1) found ≡ Some codes → (found ≡ Some codes → test (c, codes) ≡ true)
    → test (c, codes) ≡ true
found_at test p found c codes true same passes is later =
    let here : p.0 ≡ c = eqb-true p.0 c same in
    let spelled : p.1 ≡ codes = cc in
    let P : ℕ → Type 0 = λ n. test (n, codes) ≡ true in
    let Q : List ℕ → Type 0 = λ l. test (p.0, l) ≡ true in
    subst P here (subst Q spelled passes)
found_at test p found c codes false same passes is later = later is

pub found_passes : (test : ℕ × List ℕ → Bool) (ps : List (ℕ × List ℕ)) (c : ℕ) (codes : List ℕ)
    → list_all test ps ≡ true → codes_in ps c ≡ Some codes → test (c, codes) ≡ true
found_passes test [] c codes all is = cc
found_passes test (p ∷ ps) c codes all is =
    let both = and_parts (test p) (list_all test ps) all in
    found_at test p (codes_in ps c) c codes (eqb p.0 c) refl both.0 is (found_passes test ps c codes both.1)

-- the same of the alphabet
pub alphabet_passes : (test : ℕ × List ℕ → Bool) (c : ℕ) (codes : List ℕ)
    → list_all test default_alphabet ≡ true → codes_of c ≡ Some codes → test (c, codes) ≡ true
unfolding codes_of
alphabet_passes test c codes all is = found_passes test default_alphabet c codes all is

-- codes are the same as themselves
pub bytes_eq-refl : (xs : List ℕ) → bytes_eq xs xs ≡ true
bytes_eq-refl [] = refl
bytes_eq-refl (x ∷ xs) = and_from (eqb x x) (bytes_eq xs xs) (eq-eqb x x refl) (bytes_eq-refl xs)

-- one code below 128 other than the escape, or the escape and a code below 128
abbrev pub is_code_or_pair : List ℕ → Bool
is_code_or_pair [] = false
is_code_or_pair (k ∷ []) = ltb k 128 && not (eqb k escape)
is_code_or_pair (e ∷ k ∷ []) = eqb e escape && ltb k 128
is_code_or_pair (e ∷ k ∷ l ∷ ks) = false

-- no two pairs of the table have one character, and no two have the same codes
abbrev pub is_one_to_one : List (ℕ × List ℕ) → Bool
is_one_to_one [] = true
is_one_to_one (p ∷ ps) = list_all (λ q. not (eqb p.0 q.0) && not (bytes_eq p.1 q.1)) ps && is_one_to_one ps

-- the rule, over the whole table
pub alphabet-is_one_to_one : is_one_to_one default_alphabet ≡ true
unfolding default_alphabet
alphabet-is_one_to_one = refl

pub alphabet-is_code_or_pair : list_all (λ p. is_code_or_pair p.1) default_alphabet ≡ true
unfolding default_alphabet
alphabet-is_code_or_pair = refl

pub codes_look : (c : ℕ) (codes : List ℕ) → codes_of c ≡ Some codes → is_code_or_pair codes ≡ true
codes_look c codes is = alphabet_passes (λ p. is_code_or_pair p.1) c codes alphabet-is_code_or_pair is

-- a single code is below 128, and isn't the escape
pub single_code : (c k : ℕ) → codes_of c ≡ Some (k ∷ []) → (k < 128) × (k ≢ escape)
single_code c k is =
    let both = and_parts (ltb k 128) (not (eqb k escape)) (codes_look c (k ∷ []) is) in
    (ltb-true k 128 both.0, eqb-false k escape (not-true (eqb k escape) both.1))

-- one character has given codes
at_one : (p : ℕ × List ℕ) (ps : List (ℕ × List ℕ)) (c : ℕ) (codes : List ℕ)
    → list_all (λ q. not (eqb p.0 q.0) && not (bytes_eq p.1 q.1)) ps ≡ true → p.1 ≡ codes → codes_in ps c ≡ Some codes → ⊥
at_one p ps c codes apart spelled is =
    let both = and_parts (not (eqb p.0 c)) (not (bytes_eq p.1 codes)) (found_passes (λ q. not (eqb p.0 q.0) && not (bytes_eq p.1 q.1)) ps c codes apart is) in
    let P : List ℕ → Type 0 = λ l. bytes_eq l codes ≡ true in
    both_ways (bytes_eq p.1 codes) (not-true (bytes_eq p.1 codes) both.1) (subst P (sym spelled) (bytes_eq-refl codes))

spelled : (p : ℕ × List ℕ) (codes : List ℕ) → Some p.1 ≡ Some codes → p.1 ≡ codes
spelled p codes is = cc

one_at : (p : ℕ × List ℕ) (ps : List (ℕ × List ℕ)) (c d : ℕ) (codes : List ℕ) (at_c at_d : Bool)
    → eqb p.0 c ≡ at_c → eqb p.0 d ≡ at_d
    → list_all (λ q. not (eqb p.0 q.0) && not (bytes_eq p.1 q.1)) ps ≡ true
    → cond at_c (Some p.1) (codes_in ps c) ≡ Some codes → cond at_d (Some p.1) (codes_in ps d) ≡ Some codes
    → (codes_in ps c ≡ Some codes → codes_in ps d ≡ Some codes → c ≡ d) → c ≡ d
one_at p ps c d codes true true same_c same_d apart is_c is_d later = sym (eqb-true p.0 c same_c) ∙ eqb-true p.0 d same_d
one_at p ps c d codes true false same_c same_d apart is_c is_d later = absurd (at_one p ps d codes apart (spelled p codes is_c) is_d)
one_at p ps c d codes false true same_c same_d apart is_c is_d later = absurd (at_one p ps c codes apart (spelled p codes is_d) is_c)
one_at p ps c d codes false false same_c same_d apart is_c is_d later = later is_c is_d

one_character_in : (ps : List (ℕ × List ℕ)) (c d : ℕ) (codes : List ℕ) → is_one_to_one ps ≡ true
    → codes_in ps c ≡ Some codes → codes_in ps d ≡ Some codes → c ≡ d
one_character_in [] c d codes rule is_c is_d = cc
one_character_in (p ∷ ps) c d codes rule is_c is_d =
    let both = and_parts (list_all (λ q. not (eqb p.0 q.0) && not (bytes_eq p.1 q.1)) ps) (is_one_to_one ps) rule in
    one_at p ps c d codes (eqb p.0 c) (eqb p.0 d) refl refl both.0 is_c is_d (one_character_in ps c d codes both.1)

pub one_character : (c d : ℕ) (codes : List ℕ) → codes_of c ≡ Some codes → codes_of d ≡ Some codes → c ≡ d
unfolding codes_of
one_character c d codes is_c is_d = one_character_in default_alphabet c d codes alphabet-is_one_to_one is_c is_d

-- a character of the alphabet is a Unicode scalar value
each_is_scalar : list_all (λ p. scalar p.0) default_alphabet ≡ true
unfolding default_alphabet
each_is_scalar = refl

pub coded_is_scalar : (c : ℕ) (codes : List ℕ) → codes_of c ≡ Some codes → scalar c ≡ true
coded_is_scalar c codes is = alphabet_passes (λ p. scalar p.0) c codes each_is_scalar is
