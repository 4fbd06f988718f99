-- What maps hold whose keys mostly follow upon one another.
use Rattle.std.specs.Prelude.{ℕ, nat_eq, List, Option, Some, None, slice_get}
use Rattle.std.specs.Option.{unwrap_or}
use Rattle.std.specs.HashMap.{HashMap, get}
use Rattle.sms_journal.specs.declared.notes.dense_map.DenseMap.{DenseMap}
use Rattle.sms_journal.specs.Recovered.{or_else}

-- the value at a place of a list, if there is one
abbrev pub listed_at : {T : Type 0} → List (Option T) → ℕ → Option T
listed_at values place = unwrap_or (slice_get values place) None

-- the value of a key
unfoldable pub value_at : {T : Type 0} → DenseMap T → ℕ → Option T
value_at map key = or_else (listed_at map.near.items key) (get nat_eq map.far key)

-- the value of a key of one of several maps
abbrev pub value_of : {T : Type 0} → Option (DenseMap T) → ℕ → Option T
value_of None key = None
value_of (Some map) key = value_at map key

abbrev pub value_in : {T S : Type 0} → HashMap ℕ (DenseMap T) S → ℕ → ℕ → Option T
value_in maps row key = value_of (get nat_eq maps row) key
