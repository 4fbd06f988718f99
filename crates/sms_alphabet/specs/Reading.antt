-- What the functions that read units give.
use Rattle.std.specs.Prelude.{ℕ, ◌≡◌, List, ◌++◌, Some, Result, Ok, Err, string_bytes, String}
use Rattle.std.specs.Str.{chars}
use Rattle.std.specs.declared.alloc.Global.{Global}
use Rattle.sms_alphabet.specs.declared.coded.Coding.{Coding}
use Rattle.sms_alphabet.specs.declared.reading.TextError.{TextError}
use Rattle.sms_alphabet.specs.declared.reading.TextError.TheVariants.{NotText, OutOfMemory}
use Rattle.sms_alphabet.specs.Alphabet.{codes_of}
use Rattle.sms_alphabet.specs.Spelling.{IsText, spelling}

-- the units are the spelling of no text in the coding
abbrev pub SpellsNoText : Coding → List ℕ → Type 0
SpellsNoText coding units = (text : List ℕ) → IsText text → ¬ (spelling coding text ≡ Some units)

-- the text whose spelling the units are, or that there is none
abbrev pub IsReading : Coding → List ℕ → Result (String Global) TextError → Type 0
IsReading coding units (Ok text) = spelling coding (chars (string_bytes text)) ≡ Some units
IsReading coding units (Err NotText) = SpellsNoText coding units
IsReading coding units (Err OutOfMemory) = Unit {0}

-- the codes are those of the character and then the rest
pub record BeginsWith (units : List ℕ) (c : ℕ) (rest : List ℕ) : Type 0 where
  pub codes : List ℕ
  pub has : codes_of c ≡ Some codes
  pub starts : units ≡ codes ++ rest
