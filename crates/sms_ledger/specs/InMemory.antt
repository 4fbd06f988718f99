-- A ledger in memory.
use Rattle.sms_ledger.specs.Books.{State}
use Rattle.sms_ledger.specs.Kept.{state_of}
use Rattle.sms_ledger.specs.declared.ledger.Ledger.{Ledger}

-- its state
abbrev pub state_in : Ledger → State
state_in ledger = state_of ledger.books
