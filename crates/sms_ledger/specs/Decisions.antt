-- Decisions of parts in doubt, each of which is booked once.
use Rattle.std.specs.Prelude.{Bool, true, false, List, [], ◌∷◌, Option, Some, None, if◌then◌else◌}
use Rattle.sms_ledger.specs.declared.entry.Decision.{Decision}
use Rattle.sms_ledger.specs.declared.entry.Entry.{Entry}
use Rattle.sms_ledger.specs.declared.entry.Entry.TheVariants.{Decided}
use Rattle.sms_ledger.specs.declared.entry.Fate.{Fate}
use Rattle.sms_ledger.specs.declared.entry.Fate.TheVariants.{Delivered, Lost}
use Rattle.sms_ledger.specs.Books.{State, after, part_name}

-- this is what is booked of a part
abbrev pub is_fate : Fate → Option Fate → Bool
is_fate fate None = false
is_fate Delivered (Some Delivered) = true
is_fate Delivered (Some Lost) = false
is_fate Lost (Some Delivered) = false
is_fate Lost (Some Lost) = true

abbrev pub is_decided : Decision → State → Bool
is_decided d s = is_fate d.fate (s.decided (part_name d.of.run d.message d.part))

-- the entries of decisions, one after another, but for those that are booked as they are
abbrev pub undecided : List Decision → State → List Entry
undecided [] s = []
undecided (d ∷ ds) s = if is_decided d s then undecided ds s else Decided d ∷ undecided ds (after (Decided d) s)
