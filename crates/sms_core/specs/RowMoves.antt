-- What becomes of an account's credits: each move takes the account's old row to its new one.
use Rattle.std.specs.Prelude.{ℕ, ◌+◌, ◌-◌}
use Rattle.sms_core.specs.declared.row.Row.{Row}
use Rattle.sms_core.specs.declared.request.Phase.{Phase}
use Rattle.sms_core.specs.declared.request.Phase.TheVariants.{Ready, Open, Charged, Refused, Unanswered, Unsent}

-- a top-up: the credits are free
abbrev pub row_topped_up : ℕ → Row → Row
row_topped_up n r = record r { topped = r.topped + n; free = r.free + n }

-- free credits are put aside for a request
abbrev pub row_reserved : ℕ → Row → Row
row_reserved n r = record r { free = r.free - n; reserved = r.reserved + n }

-- the request was accepted: credits that were put aside are spent
abbrev pub row_charged : ℕ → Row → Row
row_charged n r = record r { reserved = r.reserved - n; charged = r.charged + n }

-- the request was refused or never sent: credits that were put aside are free again
abbrev pub row_given_back : ℕ → Row → Row
row_given_back n r = record r { free = r.free + n; reserved = r.reserved - n; returned = r.returned + n }

-- the row after a request of this cost, ready or open until then, came to its next phase
abbrev pub row_after : Phase → ℕ → Row → Row
row_after Ready cost r = r
row_after Open cost r = r
row_after Charged cost r = row_charged cost r
row_after Refused cost r = row_given_back cost r
row_after Unanswered cost r = r
row_after Unsent cost r = row_given_back cost r
