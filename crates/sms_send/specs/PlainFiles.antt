-- The files that are read where messages have references: what is found by a name is what is left of the file without these.
use Rattle.std.specs.Prelude.{ℕ, Bool, true, false, List, Option, None, Some, IfSome}
use Rattle.std.specs.Io.Cursor.{cursor_remaining}
use Rattle.sms_files.specs.Inputs.{Told}
use Rattle.sms_journal.specs.PlainFiles.{IsPlainOf}
use Rattle.sms_send.specs.declared.files.plain_files.PlainFile.{PlainFile}
use Rattle.sms_send.specs.declared.files.plain_files.PlainFile.TheVariants.{Failed, Given, Left}

-- these octets are left of those, as far as they are known
abbrev pub IsLeftOf : Told → Told → Type 0
IsLeftOf given left = IfSome left (λ plain. IfSome given (λ octets. IsPlainOf octets plain))

-- what a file that is read has left
abbrev pub left_in : {F : Type 0} → (F → Told) → PlainFile F → Told
left_in remaining (Given file) = remaining file
left_in remaining (Left text) = cursor_remaining (λ octets. Some octets.items) text
left_in remaining (Failed kind) = None

-- with references or without
abbrev pub sees : Bool → (List ℕ → Option Told → Type 0) → List ℕ → Option Told → Type 0
sees false finds name found = finds name found
sees true finds name None = finds name None
sees true finds name (Some left) = (given : Told) × finds name (Some given) × IsLeftOf given left
