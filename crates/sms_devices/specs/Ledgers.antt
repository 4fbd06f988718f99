-- A ledger's file: what stands in it, where that is known, and what an append leaves there.
use Rattle.std.specs.Prelude.{◌≡◌, ◌≤◌, ◌⊎◌, ◌++◌, ⊤, ℕ, List, Option, Some, None, length, take}
use Rattle.std.specs.Io.KnownBytes.{Keeps}
use Rattle.std.specs.declared.io.ErrorKind.{ErrorKind}
use Rattle.sms_devices.specs.declared.ledger.failure.LedgerFailure.{LedgerFailure}
use Rattle.sms_devices.specs.declared.ledger.failure.LedgerFailure.TheVariants.{OutOfMemory, Torn, Unread, Unwritten}

-- known octets are these
abbrev pub Are : Option (List ℕ) → List ℕ → Type 0
Are None text = ⊤
Are (Some octets) text = text ≡ octets

-- why they can't be read: the device answered an error, or memory was refused
abbrev pub FailsToRead : (ErrorKind → Type 0) → LedgerFailure → Type 0
FailsToRead errs (Unread kind) = errs kind
FailsToRead errs (OutOfMemory refused) = ⊤
FailsToRead errs _ = ⊥

-- known octets are cut to their first n, where there are so many
abbrev pub CutsTo : Option (List ℕ) → Option (List ℕ) → ℕ → Type 0
CutsTo None new n = ⊤
CutsTo (Some before) None n = ⊥
CutsTo (Some before) (Some after) n = n ≤ length before → after ≡ take n before

-- behind the first n of them stands this text, and nothing else
abbrev pub Replaces : Option (List ℕ) → Option (List ℕ) → ℕ → List ℕ → Type 0
Replaces None new n text = ⊤
Replaces (Some before) None n text = ⊥
Replaces (Some before) (Some after) n text = n ≤ length before → after ≡ take n before ++ text

-- behind them stands some first part of the text, maybe nothing of it or all
pub record ReplacesPart (old new : Option (List ℕ)) (n : ℕ) (text : List ℕ) : Type 0 where
  pub front : List ℕ
  pub back : List ℕ
  pub whole : text ≡ front ++ back
  pub stands : Replaces old new n front

-- after a failure known octets are cut to their first n, or stay as they were where that fails too
abbrev pub CutsBack : Option (List ℕ) → Option (List ℕ) → ℕ → ErrorKind → LedgerFailure → Type 0
CutsBack old new n kind (Unwritten why) = (why ≡ kind) × CutsTo old new n
CutsBack old new n kind (Torn why) = (why ≡ kind) × Keeps old new
CutsBack old new n kind _ = ⊥

-- what an append that failed leaves of octets of which the first n were to stay: those alone, or all that was there, or a part of the text behind them
-- where that couldn't be cut off again; the device answered an error
abbrev pub Leaves : (ErrorKind → Type 0) → Option (List ℕ) → Option (List ℕ) → ℕ → List ℕ → LedgerFailure → Type 0
Leaves errs old new n text (Unwritten kind) = errs kind × (Keeps old new ⊎ CutsTo old new n)
Leaves errs old new n text (Torn kind) = errs kind × ReplacesPart old new n text
Leaves errs old new n text _ = ⊥
