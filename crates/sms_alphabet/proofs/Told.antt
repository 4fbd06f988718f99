-- What a reading tells of a coded text.
use Rattle.std.proofs.Common.{◌≢◌, ◌↔◌, IsOk, Result, Ok, Err, String, string_bytes, chars, refl}
use Rattle.std.proofs.lemmas.Bool.{false≢true}
use Rattle.std.proofs.lemmas.Str.{scalars-chars, IsUtf8-string_bytes}
use Rattle.std.specs.declared.alloc.Global.{Global}
use Rattle.sms_alphabet.specs.declared.coded.Coded.{Coded}
use Rattle.sms_alphabet.specs.declared.reading.TextError.{TextError}
use Rattle.sms_alphabet.specs.declared.reading.TextError.TheVariants.{NotText, OutOfMemory}
use Rattle.sms_alphabet.specs.Spelling.{IsLawful}
use Rattle.sms_alphabet.specs.Reading.{IsReading}

-- want of memory aside, a text is told exactly where the coded text is lawful
pub exact : (coded : Coded) (told : Result (String Global) TextError) → IsReading coded.coding coded.units told
    → told ≢ Err OutOfMemory → IsOk told ↔ IsLawful coded
exact coded (Ok text) is had =
    (λ _. record { text = chars (string_bytes text); is_text = scalars-chars (string_bytes text) (IsUtf8-string_bytes text); spells = is }, λ _. refl)
exact coded (Err NotText) is had =
    (λ ok. absurd (false≢true ok), λ lawful. absurd (is lawful.text lawful.is_text lawful.spells))
exact coded (Err OutOfMemory) is had = absurd (had refl)
