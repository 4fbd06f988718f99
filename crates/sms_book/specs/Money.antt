-- What a worker's calls do to an account's row, by the core's moves, and to what the worker's share has of the account.
use Rattle.std.specs.Prelude.{ℕ, ◌+◌, ◌-◌, ◌^◌, ◌≤◌}
use Rattle.sms_core.specs.declared.row.Row.{Row}
use Rattle.sms_core.specs.RowMoves.{row_reserved, row_charged, row_given_back}
use Rattle.sms_book.specs.Limits.{most_returned}
use Rattle.sms_book.specs.declared.amounts.Amounts.{Amounts}
use Rattle.sms_book.specs.declared.money.Move.{Move}
use Rattle.sms_book.specs.declared.money.Move.TheVariants.{Reserve, Charge, GiveBack}

-- free credits are put aside for a message
abbrev pub reserved_more : ℕ → Amounts → Amounts
reserved_more n a = record a { reserved = a.reserved + n }

-- the message was accepted
abbrev pub charged_more : ℕ → Amounts → Amounts
charged_more n a = record a { reserved = a.reserved - n; charged = a.charged + n }

-- the message was refused or never sent, and its credits are free again
abbrev pub returned_more : ℕ → Amounts → Amounts
returned_more n a = record a { reserved = a.reserved - n; returned = a.returned + n }

-- the core's moves of a row
abbrev pub moved_row : Move → ℕ → Row → Row
moved_row Reserve n r = row_reserved n r
moved_row Charge n r = row_charged n r
moved_row GiveBack n r = row_given_back n r

abbrev pub moved_amounts : Move → ℕ → Amounts → Amounts
moved_amounts Reserve n a = reserved_more n a
moved_amounts Charge n a = charged_more n a
moved_amounts GiveBack n a = returned_more n a

-- the row can take the move without a wrap
abbrev pub CanMove : Move → ℕ → Row → Type 0
CanMove Reserve n r = (n ≤ r.free) × (r.returned + r.reserved + n ≤ most_returned)
CanMove Charge n r = (n ≤ r.reserved) × (r.charged + n ≤ 2 ^ 61)
CanMove GiveBack n r = (n ≤ r.reserved) × (r.free + n ≤ 2 ^ 61) × (r.returned + n ≤ most_returned)

-- the share can take the move without a wrap
abbrev pub FitsMove : Move → ℕ → Amounts → Type 0
FitsMove Reserve n a = a.reserved + n ≤ most_returned
FitsMove Charge n a = (n ≤ a.reserved) × (a.charged + n ≤ 2 ^ 61)
FitsMove GiveBack n a = (n ≤ a.reserved) × (a.returned + n ≤ 2 ^ 61)
