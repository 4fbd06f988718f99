-- Whether a file ends within a quote.
use Rattle.std.specs.Prelude.{◌≡◌, ℕ, ◌==◌, ◌||◌, List, [], ◌∷◌, if◌then◌else◌}
use Rattle.csv.specs.Machine.{step}
use Rattle.csv.specs.Reading.{default_config, strip_bom}
use Rattle.csv.specs.declared.parser.State.{State}
use Rattle.csv.specs.declared.parser.State.TheVariants.{StartRecord, InQuoted}
use Rattle.sms_files.specs.declared.tables.quoting.Place.{Place}
use Rattle.sms_files.specs.declared.tables.quoting.Place.TheVariants.{Front, Bare, Quoted, Ended}

-- csv's state after these octets
abbrev pub state_behind : State → List ℕ → State
state_behind s [] = s
state_behind s (c ∷ rest) = state_behind (step default_config s c).0 rest

-- csv is between the quotes of a field where the file ends
abbrev pub EndsQuoted : List ℕ → Type 0
EndsQuoted octets = state_behind StartRecord (strip_bom octets) ≡ InQuoted

-- after a quote
abbrev pub turned : Place → Place
turned Front = Quoted
turned Bare = Bare
turned Quoted = Ended
turned Ended = Quoted

-- after another octet that may end a field
abbrev pub passed : Place → ℕ → Place
passed Front c = if (c == 44) || (c == 10) || (c == 13) then Front else Bare
passed Bare c = if (c == 44) || (c == 10) || (c == 13) then Front else Bare
passed Quoted c = Quoted
passed Ended c = if (c == 44) || (c == 10) || (c == 13) then Front else Bare

-- where a reader that knows quotes alone stands after an octet
abbrev pub after : Place → ℕ → Place
after place c = if c == 34 then turned place else passed place c
