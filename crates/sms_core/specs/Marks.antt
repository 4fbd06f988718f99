-- The marks of a slot, and how each event changes one. A None says that the mark does not allow the change.
use Rattle.std.specs.Prelude.{ℕ, ◌==◌, Bool, true, false, Option, Some, None, if◌then◌else◌}
use Rattle.sms_core.specs.declared.mark.Mark.{Mark}
use Rattle.sms_core.specs.declared.mark.Mark.TheVariants.{Empty, Open, Replied}

-- sent with a number: from empty to open
abbrev pub opened : ℕ → ℕ → Mark → Option Mark
opened request number Empty = Some (Open request number)
opened request number (Open r n) = None
opened request number (Replied r n s k) = None

-- answered by number: from open to replied
abbrev pub replied : ℕ → ℕ → Bool → Mark → Option Mark
replied number status nack Empty = None
replied number status nack (Open r n) = if n == number then Some (Replied r n status nack) else None
replied number status nack (Replied r n s k) = None

-- the answer is taken: from replied to empty
abbrev pub settled : Mark → Option Mark
settled Empty = None
settled (Open r n) = None
settled (Replied r n s k) = Some Empty

-- nobody waits any more: from open to empty
abbrev pub expired : Mark → Option Mark
expired Empty = None
expired (Open r n) = Some Empty
expired (Replied r n s k) = None

abbrev pub is_empty : Mark → Bool
is_empty Empty = true
is_empty (Open r n) = false
is_empty (Replied r n s k) = false

abbrev pub is_open : Mark → Bool
is_open Empty = false
is_open (Open r n) = true
is_open (Replied r n s k) = false

-- it waits for the answer with this number
abbrev pub waits_for : ℕ → Mark → Bool
waits_for number Empty = false
waits_for number (Open r n) = n == number
waits_for number (Replied r n s k) = false
