-- Texts as they are written: the units so far, and the text that is left.
use Rattle.std.proofs.Common.{◌≡◌, ℕ, List, [], ◌∷◌, ◌++◌, length, Option, None, Some, IsSome, ◌↔◌, refl, sym, ap, subst, ◌∙◌, append_assoc, append-nil, arith, IsUtf8, chars, encode_utf8}
use Rattle.std.proofs.lemmas.Str.{chars_past_char, IsUtf8-past_char, chars-nil}
use Rattle.std.proofs.lemmas.List.Elements.{All-nil, All-cons, All-head, All-tail}
use Rattle.std.proofs.lemmas.Bool.{false≢true}
use Rattle.std.specs.Char.Escape.{encode_utf16}
use Rattle.sms_alphabet.specs.Alphabet.{codes_of}
use Rattle.sms_alphabet.specs.Spelling.{append_some, gsm_spelling, ucs2_spelling, IsCodable}

-- the codes so far and the spelling of what is left are the spelling of the whole text
pub record IsSpelledTo (so_far left whole : List ℕ) : Type 0 where
  pub utf8 : IsUtf8 left
  pub spelling : append_some (Some so_far) (gsm_spelling (chars left)) ≡ gsm_spelling (chars whole)

append_some-assoc : (xs ys : List ℕ) (o : Option (List ℕ)) → append_some (Some xs) (append_some (Some ys) o) ≡ append_some (Some (xs ++ ys)) o
append_some-assoc xs ys None = refl
append_some-assoc xs ys (Some zs) = ap (λ l. Some l) (sym (append_assoc xs ys zs))

nothing_before : (o : Option (List ℕ)) → append_some (Some []) o ≡ o
nothing_before None = refl
nothing_before (Some codes) = refl

no_bytes : (bs : List ℕ) → length bs ≡ 0 → bs ≡ []
no_bytes [] none = refl
no_bytes (b ∷ bs) none = absurd (omega (arith, none))

-- no character yet
pub spelled_first : (whole : List ℕ) → IsUtf8 whole → IsSpelledTo [] whole whole
spelled_first whole utf8 = record { utf8 = utf8; spelling = nothing_before (gsm_spelling (chars whole)) }

-- one character more
pub spelled_on : (so_far left whole rest codes : List ℕ) (c : ℕ) → IsSpelledTo so_far left whole
    → left ≡ encode_utf8 c ++ rest → Some codes ≡ codes_of c → IsSpelledTo (so_far ++ codes) rest whole
spelled_on so_far left whole rest codes c held is found =
    record {
      utf8 = IsUtf8-past_char left rest c held.utf8 is;
      spelling = sym (append_some-assoc so_far codes (gsm_spelling (chars rest)))
          ∙ ap (λ o. append_some (Some so_far) (append_some o (gsm_spelling (chars rest)))) found
          ∙ ap (λ l. append_some (Some so_far) (gsm_spelling l)) (sym (chars_past_char left rest c held.utf8 is))
          ∙ held.spelling;
    }

-- a character without a code
pub spelled_never : (so_far left whole rest : List ℕ) (c : ℕ) → IsSpelledTo so_far left whole
    → left ≡ encode_utf8 c ++ rest → None ≡ codes_of c → None ≡ gsm_spelling (chars whole)
spelled_never so_far left whole rest c held is lacks =
    ap (λ o. append_some (Some so_far) (append_some o (gsm_spelling (chars rest)))) lacks
    ∙ ap (λ l. append_some (Some so_far) (gsm_spelling l)) (sym (chars_past_char left rest c held.utf8 is))
    ∙ held.spelling

-- all characters
pub spelled_all : (so_far left whole : List ℕ) → IsSpelledTo so_far left whole → length left ≡ 0
    → Some so_far ≡ gsm_spelling (chars whole)
spelled_all so_far left whole held none =
    ap (λ l. Some l) (sym (append-nil so_far))
    ∙ ap (λ l. append_some (Some so_far) (gsm_spelling l)) (sym (ap chars (no_bytes left none) ∙ chars-nil))
    ∙ held.spelling

both_some : (o p : Option (List ℕ)) → IsSome (append_some o p) → IsSome o × IsSome p
both_some (Some xs) (Some ys) some = (refl, refl)
both_some (Some xs) None some = absurd (false≢true some)
both_some None p some = absurd (false≢true some)

some_both : (o p : Option (List ℕ)) → IsSome o → IsSome p → IsSome (append_some o p)
some_both (Some xs) (Some ys) first second = refl
some_both (Some xs) None first second = absurd (false≢true second)
some_both None p first second = absurd (false≢true first)

-- a text has a spelling exactly where it is codable
codable_from_spelling : (text : List ℕ) → IsSome (gsm_spelling text) → IsCodable text
codable_from_spelling [] some = All-nil (λ c. IsSome (codes_of c))
codable_from_spelling (c ∷ cs) some =
    let parts = both_some (codes_of c) (gsm_spelling cs) some in
    All-cons (λ c. IsSome (codes_of c)) c cs parts.0 (codable_from_spelling cs parts.1)

spelling_from_codable : (text : List ℕ) → IsCodable text → IsSome (gsm_spelling text)
spelling_from_codable [] all = refl
spelling_from_codable (c ∷ cs) all =
    some_both (codes_of c) (gsm_spelling cs) (All-head (λ c. IsSome (codes_of c)) c cs all)
    (spelling_from_codable cs (All-tail (λ c. IsSome (codes_of c)) c cs all))

-- the same for a known answer
pub codable_as_found : (text : List ℕ) (found : Option (List ℕ)) → found ≡ gsm_spelling text → IsSome found ↔ IsCodable text
codable_as_found text found is = (
  λ some. codable_from_spelling text (subst (λ (o : Option (List ℕ)). IsSome o) is some),
  λ all. subst (λ (o : Option (List ℕ)). IsSome o) (sym is) (spelling_from_codable text all),
)

-- the units so far, the one to come, and those of what is left are the units of the whole text
pub record IsUnitsTo (so_far pending left whole : List ℕ) : Type 0 where
  pub utf8 : IsUtf8 left
  pub units : so_far ++ (pending ++ ucs2_spelling (chars left)) ≡ ucs2_spelling (chars whole)

-- the second unit of a pair
pub units_on_pending : (so_far pending after left rest whole : List ℕ) (unit : ℕ) → IsUnitsTo so_far pending left whole
    → pending ≡ unit ∷ [] → after ≡ [] → rest ≡ left → IsUnitsTo (so_far ++ unit ∷ []) after rest whole
units_on_pending so_far pending after left rest whole unit held is spent same =
    record {
      utf8 = subst IsUtf8 (sym same) held.utf8;
      units = ap (λ l. (so_far ++ unit ∷ []) ++ (l ++ ucs2_spelling (chars rest))) spent
          ∙ append_assoc so_far (unit ∷ []) (ucs2_spelling (chars rest))
          ∙ ap (λ l. so_far ++ (l ++ ucs2_spelling (chars rest))) (sym is)
          ∙ ap (λ l. so_far ++ (pending ++ ucs2_spelling (chars l))) same
          ∙ held.units;
    }

-- the first unit of a character
pub units_on : (so_far pending after left whole rest : List ℕ) (unit c : ℕ) → IsUnitsTo so_far pending left whole
    → pending ≡ [] → left ≡ encode_utf8 c ++ rest → encode_utf16 c ≡ unit ∷ after
    → IsUnitsTo (so_far ++ unit ∷ []) after rest whole
units_on so_far pending after left whole rest unit c held spent is spelled =
    record {
      utf8 = IsUtf8-past_char left rest c held.utf8 is;
      units = append_assoc so_far (unit ∷ []) (after ++ ucs2_spelling (chars rest))
          ∙ ap (λ l. so_far ++ (l ++ ucs2_spelling (chars rest))) (sym spelled)
          ∙ ap (λ l. so_far ++ ucs2_spelling l) (sym (chars_past_char left rest c held.utf8 is))
          ∙ ap (λ l. so_far ++ (l ++ ucs2_spelling (chars left))) (sym spent)
          ∙ held.units;
    }

pub units_all : (so_far pending left whole : List ℕ) → IsUnitsTo so_far pending left whole → pending ≡ [] → length left ≡ 0
    → so_far ≡ ucs2_spelling (chars whole)
units_all so_far pending left whole held spent none =
    sym (append-nil so_far) ∙ ap (λ l. so_far ++ ucs2_spelling l) (sym (ap chars (no_bytes left none) ∙ chars-nil))
    ∙ ap (λ l. so_far ++ (l ++ ucs2_spelling (chars left))) (sym spent) ∙ held.units
