-- Whether a config has a password, whether others can read it, and the warning where they can. Which mode a file may have is a relation
-- of the world that the program runs in.
use Rattle.std.specs.Prelude.{◌≡◌, ℕ, Bool, false, not, ◌==◌, ◌&&◌, if◌then◌else◌, List, [], length, Option, Some, None, option_and_then, codes}
use Rattle.sms_send.specs.Modes.{lets_others_read}
use Rattle.toml.specs.Data.{Members, as_str, get_member}

-- a text that is there and isn't empty
abbrev pub is_some_text : Option (List ℕ) → Bool
is_some_text None = false
is_some_text (Some text) = not (length text == 0)

-- the table of a config has such a text at the key `password`
abbrev pub says_password : Members → Bool
says_password t = is_some_text (option_and_then as_str (get_member (codes "password") t))

-- others can read a file of this mode; of one whose mode can't be had it isn't said
abbrev pub is_open_by : Option ℕ → Bool
is_open_by None = false
is_open_by (Some mode) = lets_others_read mode

-- whether others can read the file of a name, by a mode that it may have
abbrev pub IsReadable : (List ℕ → Option ℕ → Type 0) → List ℕ → Bool → Type 0
IsReadable is_mode name readable = (mode : Option ℕ) × is_mode name mode × (readable ≡ is_open_by mode)

-- the warning of a config of this table that others can read or not
abbrev pub warning_for : Bool → Members → List ℕ
warning_for is_open t = if is_open && says_password t then codes "warning: others can read the config, which has a password\n" else []
