-- What a further round makes of what was before it: the ends of the messages, and the rows of the accounts.
use Rattle.std.specs.Prelude.{ℕ, ◌+◌, ◌-◌, ◌^◌, min, if◌then◌else◌, List, [], ◌∷◌}
use Rattle.sms_core.specs.declared.row.Row.{Row}
use Rattle.sms_message.specs.declared.ends.MessageEnd.{MessageEnd}
use Rattle.sms_journal.specs.Left.{is_left}

-- the ends after a further round: where a message was left stands what that round made of it
abbrev pub ends_over : {S : Type 0} → List (MessageEnd S) → List (MessageEnd S) → List (MessageEnd S)
ends_over [] later = []
ends_over (e ∷ es) [] = e ∷ es
ends_over (e ∷ es) (l ∷ later) = if is_left e.result then l ∷ ends_over es later else e ∷ ends_over es (l ∷ later)

-- the sum of two numbers, and the greatest of 64 bits where it is past that
abbrev pub capped_sum : ℕ → ℕ → ℕ
capped_sum a b = min (a + b) (2 ^ 64 - 1)

-- the row of an account after a further round, which began with what was free
abbrev pub row_over : Row → Row → Row
row_over row later = record {
  topped = row.topped;
  free = later.free;
  reserved = capped_sum row.reserved later.reserved;
  charged = capped_sum row.charged later.charged;
  returned = capped_sum row.returned later.returned;
}

abbrev pub rows_over : List Row → List Row → List Row
rows_over [] later = []
rows_over (row ∷ rows) [] = row ∷ rows
rows_over (row ∷ rows) (l ∷ later) = row_over row l ∷ rows_over rows later
