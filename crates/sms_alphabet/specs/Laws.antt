-- The laws of the alphabet and of coded texts.
use Rattle.std.specs.Prelude.{ℕ, ◌≡◌, ◌↔◌, ◌<◌, ◌^◌, List, Some, All, Contains, IsUtf8}
use Rattle.std.specs.Str.{chars}
use Rattle.sms_alphabet.specs.declared.coded.Coding.TheVariants.{Gsm, Ucs2}
use Rattle.sms_alphabet.specs.declared.coded.Coded.{Coded}
use Rattle.sms_alphabet.specs.Alphabet.{default_alphabet, codes_of}
use Rattle.sms_alphabet.specs.Spelling.{IsText, Spells, IsLawful, chosen}

-- a character stands in the table with one list of codes
abbrev pub OneSpelling : Type 0
OneSpelling = (c : ℕ) (codes others : List ℕ) → Contains default_alphabet (c, codes) → Contains default_alphabet (c, others)
    → codes ≡ others

-- a list of codes stands in the table with one character
abbrev pub OneCharacter : Type 0
OneCharacter = (c other : ℕ) (codes : List ℕ) → Contains default_alphabet (c, codes) → Contains default_alphabet (other, codes)
    → c ≡ other

-- a look-up finds what stands in the table
abbrev pub LookUp : Type 0
LookUp = (c : ℕ) (codes : List ℕ) → (codes_of c ≡ Some codes) ↔ Contains default_alphabet (c, codes)

-- no two texts have one spelling
abbrev pub OneText : Type 0
OneText = (coded : Coded) (text other : List ℕ) → IsText text → IsText other → Spells coded text → Spells coded other
    → text ≡ other

-- the chosen spelling of a text spells that text
abbrev pub ChosenIsLawful : Type 0
ChosenIsLawful = (text : List ℕ) → IsText text → Spells (chosen text) text × IsLawful (chosen text)

-- the bytes that the chosen spelling of a text is read as are those of the text
abbrev pub ComesBack : Type 0
ComesBack = (text back : List ℕ) → IsUtf8 text → IsUtf8 back → Spells (chosen (chars text)) (chars back) → back ≡ text

-- a unit of a lawful coded text is a septet, or fits 16 bits
abbrev pub UnitsFit : Type 0
UnitsFit = (coded : Coded) → IsLawful coded
    → (coded.coding ≡ Gsm → All (λ unit. unit < 128) coded.units) × (coded.coding ≡ Ucs2 → All (λ unit. unit < 2 ^ 16) coded.units)
