-- How texts from outside are shown.
use Rattle.std.specs.Prelude.{ℕ, ◌/◌, ◌%◌, ◌==◌, false, List, ◌++◌, if◌then◌else◌, codes}
use Rattle.std.specs.Char.{encode_utf8, is_control}
use Rattle.std.specs.Fmt.{radix_digits}
use Rattle.std.specs.List.{flat_map}
use Rattle.std.specs.Str.{chars}

-- a control character, written out: line feed, carriage return and tab by their letters, each other by its code
abbrev pub written_out : ℕ → List ℕ
written_out c =
    if c == 10 then codes "\\n" else (if c == 13 then codes "\\r" else (if c == 9 then codes "\\t"
    else codes "\\x" ++ radix_digits 16 false (c / 16) ++ radix_digits 16 false (c % 16)))

-- a character of a name
abbrev pub shown_char : ℕ → List ℕ
shown_char c = if is_control c then written_out c else encode_utf8 c

-- a name, which may hold anything: shown so, it stands in one line
abbrev pub shown : List ℕ → List ℕ
shown name = flat_map shown_char (chars name)

-- a character of a text of several lines
abbrev pub indented_char : ℕ → List ℕ
indented_char c = if c == 10 then codes "\n  " else shown_char c

-- such a text: no line of it, behind the first, stands at the margin
abbrev pub indented : List ℕ → List ℕ
indented text = flat_map indented_char (chars text)
