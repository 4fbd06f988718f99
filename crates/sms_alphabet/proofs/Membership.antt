-- A look-up in the table finds what stands there.
use Rattle.std.proofs.Common.{◌≡◌, ℕ, ◌<◌, zero, suc, Bool, true, false, not, cond, ◌&&◌, eqb, List, [], ◌∷◌, length, get_or, Some, refl, ap, ap₂, subst, ◌∙◌, arith}
use Rattle.std.proofs.lemmas.Bool.{eqb-true, eq-eqb, and_parts, not-true, cond-true, cond-false}
use Rattle.std.proofs.lemmas.List.Sums.{AllPass-from_list_all}
use Rattle.std.specs.List.{list_all, Contains}
use Rattle.std.specs.Str.{bytes_eq}
use Rattle.sms_alphabet.specs.Alphabet.{default_alphabet, codes_in, codes_of}
use Rattle.sms_alphabet.proofs.Table.{is_one_to_one, alphabet-is_one_to_one}

-- what is found stands in the table
stands_at : (p : ℕ × List ℕ) (ps : List (ℕ × List ℕ)) (c : ℕ) (codes : List ℕ) (same : Bool) → eqb p.0 c ≡ same
    → cond same (Some p.1) (codes_in ps c) ≡ Some codes → (codes_in ps c ≡ Some codes → Contains ps (c, codes)) → Contains (p ∷ ps) (c, codes)
stands_at p ps c codes true same is later =
    let spelled : p.1 ≡ codes = cc in
    (0, omega arith, ap₂ (λ n l. (n, l)) (eqb-true p.0 c same) spelled)
stands_at p ps c codes false same is later =
    let (place, within, here) = later is in
    (suc place, omega (arith, within), here)

stands_in : (ps : List (ℕ × List ℕ)) (c : ℕ) (codes : List ℕ) → codes_in ps c ≡ Some codes → Contains ps (c, codes)
stands_in [] c codes is = cc
stands_in (p ∷ ps) c codes is = stands_at p ps c codes (eqb p.0 c) refl is (stands_in ps c codes)

pub found_stands : (c : ℕ) (codes : List ℕ) → codes_of c ≡ Some codes → Contains default_alphabet (c, codes)
unfolding codes_of
found_stands c codes is = stands_in default_alphabet c codes is

-- what stands in a table with no character twice is found
found_in : (ps : List (ℕ × List ℕ)) (x : ℕ × List ℕ) (k : ℕ) → is_one_to_one ps ≡ true → k < length ps → get_or ps k x ≡ x
    → codes_in ps x.0 ≡ Some x.1
found_in [] x k rule within is = absurd (omega (arith, within))
found_in (p ∷ ps) x zero rule within is =
    cond-true (eqb p.0 x.0) (Some p.1) (codes_in ps x.0) (eq-eqb p.0 x.0 (ap (λ q. q.0) is)) ∙ ap (λ q. Some q.1) is
found_in (p ∷ ps) x (suc k) rule within is =
    let both = and_parts (list_all (λ q. not (eqb p.0 q.0) && not (bytes_eq p.1 q.1)) ps) (is_one_to_one ps) rule in
    let here : k < length ps = omega (arith, within) in
    let apart = AllPass-from_list_all (λ q. not (eqb p.0 q.0) && not (bytes_eq p.1 q.1)) ps both.0 k x here in
    let other = not-true _ (and_parts (not (eqb p.0 (get_or ps k x).0)) (not (bytes_eq p.1 (get_or ps k x).1)) apart).0 in
    cond-false (eqb p.0 x.0) (Some p.1) (codes_in ps x.0) (subst (λ (q : ℕ × List ℕ). eqb p.0 q.0 ≡ false) is other)
    ∙ found_in ps x k both.1 here is

pub standing_is_found : (c : ℕ) (codes : List ℕ) → Contains default_alphabet (c, codes) → codes_of c ≡ Some codes
unfolding codes_of
standing_is_found c codes (place, within, here) = found_in default_alphabet (c, codes) place alphabet-is_one_to_one within here
