-- How a text, as a list of its characters, is spelled in a coding.
use Rattle.std.specs.Prelude.{ℕ, ◌≡◌, true, List, [], ◌∷◌, ◌++◌, Option, None, Some, IsSome, All}
use Rattle.std.specs.Str.{all_scalars}
use Rattle.std.specs.List.{flat_map}
use Rattle.std.specs.Char.Escape.{encode_utf16}
use Rattle.sms_alphabet.specs.declared.coded.Coding.{Coding}
use Rattle.sms_alphabet.specs.declared.coded.Coding.TheVariants.{Gsm, Ucs2}
use Rattle.sms_alphabet.specs.declared.coded.Coded.{Coded}
use Rattle.sms_alphabet.specs.Alphabet.{codes_of}

-- each character of a text is a Unicode scalar value
abbrev pub IsText : List ℕ → Type 0
IsText text = all_scalars text ≡ true

-- the default alphabet has each character of the text
abbrev pub IsCodable : List ℕ → Type 0
IsCodable text = All (λ c. IsSome (codes_of c)) text

-- the one list and then the other, where both are there
abbrev pub append_some : Option (List ℕ) → Option (List ℕ) → Option (List ℕ)
append_some (Some xs) (Some ys) = Some (xs ++ ys)
append_some _ _ = None

-- the codes of the characters, in order, where the alphabet has them all
abbrev pub gsm_spelling : List ℕ → Option (List ℕ)
gsm_spelling [] = Some []
gsm_spelling (c ∷ cs) = append_some (codes_of c) (gsm_spelling cs)

-- the UTF-16 code units of the characters, in order
abbrev pub ucs2_spelling : List ℕ → List ℕ
ucs2_spelling text = flat_map encode_utf16 text

-- the units of the text in the coding, where it can be written there
abbrev pub spelling : Coding → List ℕ → Option (List ℕ)
spelling Gsm text = gsm_spelling text
spelling Ucs2 text = Some (ucs2_spelling text)

-- the coded text is the spelling of the text in its coding
abbrev pub Spells : Coded → List ℕ → Type 0
Spells coded text = spelling coded.coding text ≡ Some coded.units

-- the coded text is the spelling of some text in its coding
pub record IsLawful (coded : Coded) : Type 0 where
  pub text : List ℕ
  pub is_text : IsText text
  pub spells : Spells coded text

-- the spelling in the default alphabet where there is one, and otherwise in UCS2
abbrev pub chosen_from : Option (List ℕ) → List ℕ → Coded
chosen_from (Some codes) text = record { coding = Gsm; units = codes }
chosen_from None text = record { coding = Ucs2; units = ucs2_spelling text }

-- the text in the default alphabet where it can be written there, and otherwise in UCS2
abbrev pub chosen : List ℕ → Coded
chosen text = chosen_from (gsm_spelling text) text
