-- What the checks say that admit a message, before its credits are looked at.
use Rattle.std.specs.Prelude.{◌≡◌, ℕ, Bool, true, false, List, length, Option, Some, None}
use Rattle.sms_segment.specs.Message.{IsTooLong}
use Rattle.sms_message.specs.declared.message.Message.{Message}
use Rattle.sms_message.specs.declared.rules.Rules.{Rules}
use Rattle.sms_message.specs.declared.ends.MessageRefusal.{MessageRefusal}
use Rattle.sms_message.specs.declared.ends.MessageRefusal.TheVariants as refusals
use Rattle.sms_message.specs.Submits.{HasAddresses, coded_text, message_parts, reference_of}
use Rattle.sms_message.specs.Admission.{IsKnown, IsShort}
use Rattle.sms_journal.specs.declared.notes.run_size.RunSize.{RunSize}
use Rattle.sms_journal.specs.declared.notes.verdict.Verdict.{Verdict}
use Rattle.sms_journal.specs.declared.notes.verdict.Verdict.TheVariants.{NoAccount, BadAddress, TooLong, Parts}
use Rattle.sms_journal.specs.Lawful.{message_of}

abbrev pub IsVerdict : Rules → ℕ → Message → Verdict → Type 0
IsVerdict rules accounts m NoAccount = ¬ IsKnown accounts m.account
IsVerdict rules accounts m BadAddress = IsKnown accounts m.account × ¬ HasAddresses m
IsVerdict rules accounts m TooLong = IsKnown accounts m.account × HasAddresses m × IsTooLong (coded_text m) (reference_of rules m)
IsVerdict rules accounts m (Parts count) = IsKnown accounts m.account × HasAddresses m × IsShort rules m × (count ≡ length (message_parts rules m))

-- the verdict on the message with this index; none where there is no message
abbrev pub IsVerdictAt : Rules → RunSize → List Message → ℕ → Option Verdict → Type 0
IsVerdictAt rules size ms i None = message_of ms i ≡ None
IsVerdictAt rules size ms i (Some verdict) = (m : Message) × (message_of ms i ≡ Some m) × IsVerdict rules size.accounts m verdict

-- the number of parts of a message that passes
abbrev pub parts_by : Option Verdict → Option ℕ
parts_by None = None
parts_by (Some NoAccount) = None
parts_by (Some BadAddress) = None
parts_by (Some TooLong) = None
parts_by (Some (Parts count)) = Some count

-- whether a message with this verdict may be refused for this reason
abbrev pub allows : MessageRefusal → Verdict → Bool
allows refusals.BindClosed verdict = true
allows refusals.NoAccount NoAccount = true
allows refusals.NoAccount BadAddress = false
allows refusals.NoAccount TooLong = false
allows refusals.NoAccount (Parts count) = false
allows refusals.BadAddress NoAccount = false
allows refusals.BadAddress BadAddress = true
allows refusals.BadAddress TooLong = false
allows refusals.BadAddress (Parts count) = false
allows refusals.TooLong NoAccount = false
allows refusals.TooLong BadAddress = false
allows refusals.TooLong TooLong = true
allows refusals.TooLong (Parts count) = false
allows refusals.NoCredit NoAccount = false
allows refusals.NoCredit BadAddress = false
allows refusals.NoCredit TooLong = false
allows refusals.NoCredit (Parts count) = true
allows refusals.OutOfMemory NoAccount = false
allows refusals.OutOfMemory BadAddress = false
allows refusals.OutOfMemory TooLong = true
allows refusals.OutOfMemory (Parts count) = true
