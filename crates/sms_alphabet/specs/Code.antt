-- What a look-up's answer stands for.
use Rattle.std.specs.Prelude.{ℕ, List, [], ◌∷◌}
use Rattle.sms_alphabet.specs.declared.alphabet.Code.{Code}
use Rattle.sms_alphabet.specs.declared.alphabet.Code.TheVariants.{Basic, Extension}
use Rattle.sms_alphabet.specs.Alphabet.{escape}

-- the codes that are sent for it
abbrev pub codes : Code → List ℕ
codes (Basic code) = code ∷ []
codes (Extension code) = escape ∷ code ∷ []
