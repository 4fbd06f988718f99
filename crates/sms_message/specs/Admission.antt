-- Which messages are admitted, and what each refusal says.
use Rattle.std.specs.Prelude.{ℕ, ◌<◌, Option, Some, None}
use Rattle.sms_segment.specs.Message.{IsTooLong}
use Rattle.sms_message.specs.declared.message.Message.{Message}
use Rattle.sms_message.specs.declared.rules.Rules.{Rules}
use Rattle.sms_message.specs.declared.ends.MessageRefusal.{MessageRefusal}
use Rattle.sms_message.specs.declared.ends.MessageRefusal.TheVariants.{NoAccount, NoCredit, TooLong, BadAddress, BindClosed, OutOfMemory}
use Rattle.sms_message.specs.Submits.{HasAddresses, coded_text, reference_of}

-- the account is one of the book's
abbrev pub IsKnown : ℕ → Option ℕ → Type 0
IsKnown accounts None = ⊥
IsKnown accounts (Some account) = account < accounts

-- a header can count its parts
abbrev pub IsShort : Rules → Message → Type 0
IsShort rules m = ¬ IsTooLong (coded_text m) (reference_of rules m)

-- what each refusal says of its message; they come in this order: NoAccount, BadAddress, TooLong, NoCredit
abbrev pub IsRefusalOf : Rules → ℕ → Message → MessageRefusal → Type 0
IsRefusalOf rules accounts m NoAccount = ¬ IsKnown accounts m.account
IsRefusalOf rules accounts m BadAddress = IsKnown accounts m.account × ¬ HasAddresses m
IsRefusalOf rules accounts m TooLong = IsKnown accounts m.account × HasAddresses m × IsTooLong (coded_text m) (reference_of rules m)
IsRefusalOf rules accounts m NoCredit = IsKnown accounts m.account × HasAddresses m × IsShort rules m
IsRefusalOf rules accounts m BindClosed = Unit {0}
IsRefusalOf rules accounts m OutOfMemory = IsKnown accounts m.account × HasAddresses m

-- why a text isn't cut
abbrev pub IsNotCut : Rules → Message → MessageRefusal → Type 0
IsNotCut rules m TooLong = IsTooLong (coded_text m) (reference_of rules m)
IsNotCut rules m OutOfMemory = Unit {0}
IsNotCut rules m NoAccount = ⊥
IsNotCut rules m BadAddress = ⊥
IsNotCut rules m NoCredit = ⊥
IsNotCut rules m BindClosed = ⊥
