-- Texts of ASCII characters with one code each.
use Rattle.std.proofs.Common.{◌≡◌, ℕ, ◌+◌, ◌<◌, true, List, [], ◌∷◌, ◌++◌, length, take, get_or, Option, None, Some, refl, sym, ap, ◌∙◌, append_assoc, All, chars}
use Rattle.std.proofs.lemmas.Bool.{and_parts, ltb-true}
use Rattle.std.proofs.lemmas.List.{take_more}
use Rattle.std.proofs.lemmas.List.Elements.{All-nil, All-cons}
use Rattle.std.proofs.lemmas.Str.{chars-IsAscii}
use Rattle.std.proofs.lemmas.Str.Ascii.{IsAscii-from_all}
use Rattle.std.specs.List.{list_all}
use Rattle.sms_alphabet.specs.Alphabet.{codes_of, is_plain}
use Rattle.sms_alphabet.specs.Spelling.{append_some, gsm_spelling}

all_below : (text : List ℕ) → list_all is_plain text ≡ true → All (λ c. c < 128) text
all_below [] all = All-nil (λ c. c < 128)
all_below (c ∷ cs) all =
    let parts = and_parts _ _ all in
    All-cons (λ c. c < 128) c cs (ltb-true c 128 (and_parts _ _ parts.0).0) (all_below cs parts.1)

-- such a text's characters are its octets
pub plain_chars : (text : List ℕ) → list_all is_plain text ≡ true → chars text ≡ text
plain_chars text all = chars-IsAscii text (IsAscii-from_all text (all_below text all))

append_some-assoc : (o p q : Option (List ℕ)) → append_some (append_some o p) q ≡ append_some o (append_some p q)
append_some-assoc None p q = refl
append_some-assoc (Some xs) None q = refl
append_some-assoc (Some xs) (Some ys) None = refl
append_some-assoc (Some xs) (Some ys) (Some zs) = ap (λ l. Some l) (append_assoc xs ys zs)

nothing_before : (o : Option (List ℕ)) → append_some (Some []) o ≡ o
nothing_before None = refl
nothing_before (Some codes) = refl

spelling-append : (text more : List ℕ) → gsm_spelling (text ++ more) ≡ append_some (gsm_spelling text) (gsm_spelling more)
spelling-append [] more = sym (nothing_before (gsm_spelling more))
spelling-append (c ∷ cs) more =
    ap (append_some (codes_of c)) (spelling-append cs more) ∙ sym (append_some-assoc (codes_of c) (gsm_spelling cs) (gsm_spelling more))

-- one character more
pub spelled_more : (text so_far : List ℕ) (n c code : ℕ) → n < length text → c ≡ get_or text n 0 → codes_of c ≡ Some (code ∷ [])
    → Some so_far ≡ gsm_spelling (take n text) → Some (so_far ++ code ∷ []) ≡ gsm_spelling (take (n + 1) text)
spelled_more text so_far n c code there is found was =
    ap (λ o. append_some (Some so_far) (append_some o (Some []))) (sym found)
    ∙ ap (λ o. append_some o (gsm_spelling (c ∷ []))) was
    ∙ sym (spelling-append (take n text) (c ∷ []))
    ∙ ap (λ x. gsm_spelling (take n text ++ x ∷ [])) is
    ∙ ap gsm_spelling (sym (take_more text n 0 there))
