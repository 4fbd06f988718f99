-- Which accounts have their record already, while the accounts file of a run is made.
use Rattle.std.specs.Prelude.{ℕ, Bool, not, List}
use Rattle.sms_ledger.specs.Names.{octets_text}

-- a name of these octets isn't among those that have one
abbrev pub is_unseen : (List ℕ → Bool) → List ℕ → Bool
is_unseen seen name = not (seen (octets_text name))
