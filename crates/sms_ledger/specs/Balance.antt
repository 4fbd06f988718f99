-- The balance of all accounts, as a table.
use Rattle.std.specs.Prelude.{ℕ, List, ◌++◌, codes, flat_map}
use Rattle.sms_ledger.specs.declared.entry.Row.{Row}
use Rattle.sms_ledger.specs.Books.{State, row_at}
use Rattle.sms_ledger.specs.Text.{number_field}

abbrev pub numbers_text : Row → List ℕ
numbers_text row = number_field row.paid ++ number_field row.free ++ number_field row.out ++ number_field row.doubt ++ number_field row.spent ++ codes "\n"

abbrev pub balance_line : State → List ℕ → List ℕ
balance_line s account = account ++ numbers_text (row_at account s)

abbrev pub balance_header : List ℕ
balance_header = codes "account,paid,free,out,doubt,spent\n"

-- a record for each account, in the order in which they were opened
abbrev pub balance_text : State → List ℕ
balance_text s = balance_header ++ flat_map (balance_line s) s.opened

-- and of one account alone
abbrev pub account_text : State → List ℕ → List ℕ
account_text s account = balance_header ++ balance_line s account
