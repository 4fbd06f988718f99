-- The keys of a script's TOML text.
use Rattle.std.specs.Prelude.{◌≡◌, ℕ, ℤ, pos, negsuc, nat_le, ◌&&◌, ◌||◌, Bool, true, List, [], ◌∷◌, Option, Some, None, option_map, option_and_then, if◌then◌else◌, codes}
use Rattle.std.specs.Str.{bytes_eq}
use Rattle.std.specs.Prelude.{String, string_bytes, ◌≢◌}
use Rattle.std.specs.declared.alloc.Global.{Global}
use Rattle.toml.specs.Data.{Data, Items, no_items, item, Members, no_members, member, get_member, as_integer, as_str, as_array}

-- below 2^32
abbrev pub u32_in : ℤ → Option ℕ
u32_in (pos n) = if nat_le n 0xFFFF_FFFF then Some n else None
u32_in (negsuc n) = None

-- 0 where the key is missing
abbrev pub status_in : Option Data → Option ℕ
status_in None = Some 0
status_in (Some d) = option_and_then u32_in (as_integer d)

-- each item is a text
abbrev pub strings_in : Items → Option (List (List ℕ))
strings_in no_items = Some []
strings_in (item d ds) = option_and_then (λ s. option_map (λ ss. s ∷ ss) (strings_in ds)) (as_str d)

abbrev pub texts_in : Option Data → Option (List (List ℕ))
texts_in None = None
texts_in (Some d) = option_and_then strings_in (as_array d)

abbrev pub is_known : List ℕ → Bool
is_known k = bytes_eq k (codes "bind_status") || bytes_eq k (codes "answers")

abbrev pub all_known : Members → Bool
all_known no_members = true
all_known (member k d ms) = is_known k && all_known ms

-- the same of a list of keys
abbrev pub each_known : List (String Global) → Bool
each_known [] = true
each_known (k ∷ ks) = is_known (string_bytes k) && each_known ks

-- the keys have these values
pub record AreKeys (t : Members) (status : ℕ) (texts : List (List ℕ)) : Type 0 where
  pub bind_status : status_in (get_member (codes "bind_status") t) ≡ Some status
  pub answers : texts_in (get_member (codes "answers") t) ≡ Some texts
  pub known : all_known t ≡ true
  pub some : texts ≢ []
