-- What a config has at a key. The value of `password` is not shown.
use Rattle.std.specs.Prelude.{◌≡◌, ℕ, ◌+◌, Bool, true, false, List, [], ◌∷◌, Option, None, Some, if◌then◌else◌, codes, map, slice_index_or, string_bytes}
use Rattle.std.specs.Str.{bytes_eq}
use Rattle.toml.specs.Data.{Data, Items, Members, string, integer, float, boolean, datetime, array, table, get_member}
use Rattle.sms_centre.specs.Keys.{strings_in}
use Rattle.sms_centre.specs.Texts.{IsFirstBad}
use Rattle.sms_files.specs.Config.{Key}
use Rattle.sms_files.specs.declared.config.config_value.ConfigValue.{ConfigValue}
use Rattle.sms_files.specs.declared.config.config_value.ConfigValue.TheVariants.{Missing, Number, Flag, Text, Hidden, Texts, BadText, Values, Table, Else}

-- a text is shown by the octets of its string
abbrev pub IsTextOf : List ℕ → ConfigValue → Type 0
IsTextOf s (Text text) = string_bytes text ≡ s
IsTextOf s _ = ⊥

-- of a list of texts the first that no script of a test centre has, by its number from 1, if there is one
abbrev pub AreTextsOf : List (List ℕ) → ConfigValue → Type 0
AreTextsOf texts Texts = (place : ℕ) → ¬ IsFirstBad texts place
AreTextsOf texts (BadText number text) = (place : ℕ) × (number ≡ place + 1) × IsFirstBad texts place × (string_bytes text ≡ slice_index_or texts place [])
AreTextsOf texts _ = ⊥

abbrev pub AreValuesOf : Option (List (List ℕ)) → ConfigValue → Type 0
AreValuesOf None value = value ≡ Values
AreValuesOf (Some texts) value = AreTextsOf texts value

-- a value of the table, and what is shown of it
abbrev pub IsValueOf : Data → ConfigValue → Type 0
IsValueOf (string s) value = IsTextOf s value
IsValueOf (integer z) value = value ≡ Number z
IsValueOf (boolean b) value = value ≡ Flag b
IsValueOf (array ds) value = AreValuesOf (strings_in ds) value
IsValueOf (table ms) value = value ≡ Table
IsValueOf (float x) value = value ≡ Else
IsValueOf (datetime dt) value = value ≡ Else

-- of a secret only whether it is a text
abbrev pub is_string : Data → Bool
is_string (string s) = true
is_string _ = false

abbrev pub IsShownAs : Bool → Data → ConfigValue → Type 0
IsShownAs true d value = value ≡ Hidden (is_string d)
IsShownAs false d value = IsValueOf d value

abbrev pub IsShownAt : Bool → Option Data → ConfigValue → Type 0
IsShownAt secret None value = value ≡ Missing
IsShownAt secret (Some d) value = IsShownAs secret d value

abbrev pub is_secret : Key → Bool
is_secret key = bytes_eq key (codes "password")

-- what a table has at a key
abbrev pub IsValueAt : Key → Members → ConfigValue → Type 0
IsValueAt key t value = IsShownAt (is_secret key) (get_member key t) value
