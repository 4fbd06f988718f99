-- What the functions that write units leave.
use Rattle.std.specs.Prelude.{ℕ, List, Option, None, Some, Vec}
use Rattle.std.specs.declared.alloc.Global.{Global}

-- the vector's list, where there is a vector
abbrev pub items_of : Option (Vec ℕ Global) → Option (List ℕ)
items_of (Some codes) = Some codes.items
items_of None = None
