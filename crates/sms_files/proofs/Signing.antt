-- A text with its quotes twice, where the next character isn't one.
use Rattle.std.proofs.Common.{◌≡◌, ◌∙◌, sym, refl, ap, ℕ, suc, ◌<◌, Bool, true, false, List, [], ◌∷◌, ◌++◌, length, get_or, append_assoc, append-nil, arith, encode_utf8}
use Rattle.std.specs.Prelude.{◌==◌}
use Rattle.std.proofs.lemmas.Bool.{eqb-true}
use Rattle.std.proofs.lemmas.Grind.{flat_map-append}
use Rattle.std.proofs.lemmas.Str.{inside_one}
use Rattle.sms_files.specs.Report.{quoted, quoted_octet}

-- octets without a quote stay
without_quote : (xs : List ℕ) → ((k : ℕ) → k < length xs → ¬ (get_or xs k 0 ≡ 34)) → quoted xs ≡ xs
without_quote [] none = refl
without_quote (x ∷ xs) none = by (x == 34) refl (without_quote xs (λ k low. none (suc k) (omega (arith, low))))
  where
    by : (b : Bool) → (x == 34) ≡ b → quoted xs ≡ xs → quoted (x ∷ xs) ≡ x ∷ xs
    by true is rest = absurd (none 0 (omega arith) (eqb-true x 34 is))
    by false is rest = rw (is, rest) refl

-- a character that isn't a quote has none among its octets
other_char : (c : ℕ) → ¬ (c ≡ 34) → quoted (encode_utf8 c) ≡ encode_utf8 c
other_char c other =
    without_quote (encode_utf8 c) (λ k low is. other (inside_one c [] (encode_utf8 c) k (sym (append-nil (encode_utf8 c))) low (omega (arith, is)) ∙ is))

-- so it is written as it stands
pub with_other : (text pushed all rest after : List ℕ) (c : ℕ) → text ++ quoted rest ≡ all → rest ≡ encode_utf8 c ++ after → ¬ (c ≡ 34) → pushed ≡ text ++ encode_utf8 c
    → pushed ++ quoted after ≡ all
with_other text pushed all rest after c before is other grows =
    ap (λ (l : List ℕ). l ++ quoted after) (grows ∙ ap (λ (l : List ℕ). text ++ l) (sym (other_char c other)))
    ∙ append_assoc text (quoted (encode_utf8 c)) (quoted after)
    ∙ ap (λ (l : List ℕ). text ++ l) (sym (ap quoted is ∙ flat_map-append quoted_octet (encode_utf8 c) after))
    ∙ before
