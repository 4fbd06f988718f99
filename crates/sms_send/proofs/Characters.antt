-- A text as it is shown, character by character.
use Rattle.std.proofs.Common.{◌≡◌, ◌∙◌, sym, ap, ℕ, List, [], ◌++◌, length, append_assoc, append-nil, encode_utf8, chars}
use Rattle.std.specs.Str.{IsUtf8}
use Rattle.std.specs.List.{flat_map}
use Rattle.std.proofs.lemmas.List.{nil_from_length}
use Rattle.std.proofs.lemmas.Str.{IsUtf8-past_char, chars-nil, chars_past_char}

-- so much of a text was shown, each character so, and this is the rest of it
pub record IsShownTo (show : ℕ → List ℕ) (done rest text : List ℕ) : Type 0 where
  pub utf8 : IsUtf8 rest
  pub whole : done ++ flat_map show (chars rest) ≡ flat_map show (chars text)

pub shown_none : (show : ℕ → List ℕ) (text : List ℕ) → IsUtf8 text → IsShownTo show [] text text
shown_none show text utf8 = record { utf8 = utf8; whole = λ _. flat_map show (chars text) }

-- one character more
pub shown_on : (show : ℕ → List ℕ) (done rest after text : List ℕ) (c : ℕ) → IsShownTo show done rest text → rest ≡ encode_utf8 c ++ after
    → IsShownTo show (done ++ show c) after text
shown_on show done rest after text c before is =
    record {
      utf8 = IsUtf8-past_char rest after c before.utf8 is;
      whole = append_assoc done (show c) (flat_map show (chars after)) ∙ ap (λ (cs : List ℕ). done ++ flat_map show cs) (sym (chars_past_char rest after c before.utf8 is)) ∙ before.whole;
    }

-- the whole text
pub shown_all : (show : ℕ → List ℕ) (done rest text : List ℕ) → IsShownTo show done rest text → length rest ≡ 0 → done ≡ flat_map show (chars text)
shown_all show done rest text before none =
    sym (append-nil done) ∙ ap (λ (l : List ℕ). done ++ l) (sym (ap (λ (cs : List ℕ). flat_map show (chars cs)) (nil_from_length rest none) ∙ ap (flat_map show) chars-nil)) ∙ before.whole
