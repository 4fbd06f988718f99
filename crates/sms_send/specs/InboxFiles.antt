-- The inbox of a sending, and why there is none where one is asked for.
use Rattle.std.specs.Prelude.{◌≡◌, ⊤, ℕ, ◌*◌, List, Option, Some, None}
use Rattle.sms_pdu.specs.declared.command.Mode.TheVariants.{Transceiver}
use Rattle.sms_devices.specs.declared.inbox.EnquireTimes.{EnquireTimes}
use Rattle.sms_files.specs.declared.config.Config.{Config}
use Rattle.sms_send.specs.declared.faults.fault.Fault.{Fault}
use Rattle.sms_send.specs.declared.faults.fault.Fault.TheVariants.{BadReceived, File, InboxMode, OutOfMemory, UnreadFile, Unmade}

-- deliver_sm come only to binds of this mode (SMPP 3.4 2.2)
abbrev pub Receives : Config → Type 0
Receives config = config.connection.settings.mode ≡ Transceiver

-- the binds receive, where an inbox is asked for
abbrev pub MayKeep : Option (List ℕ) → Config → Type 0
MayKeep None config = ⊤
MayKeep (Some name) config = Receives config

-- why there is none: the binds don't receive; the file can't be made, opened, read or cut; what stands in it is no inbox; or memory ran out
abbrev pub IsInboxFault : Config → Fault → Type 0
IsInboxFault config InboxMode = ¬ Receives config
IsInboxFault config (Unmade name kind) = ⊤
IsInboxFault config (File name kind) = ⊤
IsInboxFault config (UnreadFile name error kind) = ⊤
IsInboxFault config (BadReceived place) = ⊤
IsInboxFault config OutOfMemory = ⊤
IsInboxFault config _ = ⊥

-- only where one is asked for
abbrev pub LacksInbox : Option (List ℕ) → Config → Fault → Type 0
LacksInbox None config fault = ⊥
LacksInbox (Some name) config fault = IsInboxFault config fault

-- a line is asked after so many seconds, and has as long to answer as a request
abbrev pub times_in : ℕ → ℕ → EnquireTimes
times_in answer_ms seconds = record { idle_ms = seconds * 1000; answer_ms = answer_ms }
