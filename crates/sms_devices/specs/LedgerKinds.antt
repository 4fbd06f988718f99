-- The kinds of ledgers: which files are of a kind by their first octets, and what stands there before the ledger's text.
use Rattle.std.specs.Prelude.{ℕ, ◌==◌, ◌&&◌, Bool, not, List, take, length, codes, if◌then◌else◌}
use Rattle.std.specs.Str.{bytes_eq}
use Rattle.sms_devices.specs.declared.ledger.kind.LedgerKind.{LedgerKind}
use Rattle.sms_devices.specs.declared.ledger.kind.LedgerKind.TheVariants.{Paid, Trial}

abbrev pub trial_line : List ℕ
trial_line = codes "trial\n"

-- the line of trials, or what is left of it
abbrev pub begins : List ℕ → Bool
begins first = not (length first == 0) && bytes_eq (take (length first) trial_line) first

abbrev pub front_in : List ℕ → ℕ
front_in first = if begins first then 6 else 0

abbrev pub may_be : LedgerKind → List ℕ → Bool
may_be Paid first = not (begins first)
may_be Trial first = begins first
