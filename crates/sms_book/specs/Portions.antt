-- What a worker or the till has of each account.
use Rattle.std.specs.Prelude.{ℕ, List, slice_index_or}
use Rattle.sms_core.specs.declared.row.Row.{Row}
use Rattle.sms_core.specs.Rows.{no_row}
use Rattle.sms_book.specs.declared.amounts.Amounts.{Amounts}
use Rattle.sms_book.specs.declared.rule.Portion.{Portion}

abbrev pub no_amounts : Amounts
no_amounts = record { reserved = 0; charged = 0; returned = 0 }

-- what a share has of an account; nothing where there is no such account
abbrev pub amounts_at : List Amounts → ℕ → Amounts
amounts_at share account = slice_index_or share account no_amounts

-- the top-ups of an account that went through the till
abbrev pub topped_at : List ℕ → ℕ → ℕ
topped_at till account = slice_index_or till account 0

-- the row of an account
abbrev pub row_at : List Row → ℕ → Row
row_at rows account = slice_index_or rows account no_row

abbrev pub nothing : Portion
nothing = record { topped = 0; reserved = 0; charged = 0; returned = 0 }

abbrev pub portion_at : List Portion → ℕ → Portion
portion_at ps account = slice_index_or ps account nothing

-- a worker tops nothing up, and the till does nothing else
abbrev pub of_worker : Amounts → Portion
of_worker a = record { topped = 0; reserved = a.reserved; charged = a.charged; returned = a.returned }

abbrev pub of_till : ℕ → Portion
of_till topped = record { topped = topped; reserved = 0; charged = 0; returned = 0 }

-- an account's row without its free credits: what all holders together have of it
abbrev pub of_row : Row → Portion
of_row r = record { topped = r.topped; reserved = r.reserved; charged = r.charged; returned = r.returned }
