-- The warnings of texts that look as if a quote had been left open in the messages file.
use Rattle.std.specs.Prelude.{ℕ, ◌+◌, ◌==◌, nat_le, if◌then◌else◌, Bool, List, [], ◌∷◌, ◌++◌, codes, decimal, string_bytes}
use Rattle.sms_message.specs.declared.message.Message.{Message}

-- how many commas there are
abbrev pub commas : List ℕ → ℕ
commas [] = 0
commas (x ∷ xs) = (if x == 44 then 1 else 0) + commas xs

-- what stands after the first line feed; nothing where there is none
abbrev pub behind_line : List ℕ → List ℕ
behind_line [] = []
behind_line (x ∷ xs) = if x == 10 then xs else behind_line xs

-- after a line feed stand at least as many commas as a messages record has between its four fields
abbrev pub looks_open : List ℕ → Bool
looks_open text = nat_le 3 (commas (behind_line text))

-- the line of a message whose text looks so, and nothing of another
abbrev pub warning_line : Message → List ℕ
warning_line m =
    if looks_open (string_bytes m.text) then codes "warning: message " ++ decimal m.index ++ codes ": its text has a line end and commas: is a quote left open?\n" else []

abbrev pub warning_lines : List Message → List ℕ
warning_lines [] = []
warning_lines (m ∷ ms) = warning_line m ++ warning_lines ms
