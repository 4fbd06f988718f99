-- Why there is no inbox, from its parts.
use Rattle.std.proofs.Common.{◌≡◌, ◌⊎◌, inl, inr, refl, sym, subst, ℕ, List, Option, String, Global}
use Rattle.sms_driver.specs.declared.start.StartPhase.TheVariants.{Idle}
use Rattle.sms_files.specs.Inputs.{Told}
use Rattle.sms_files.specs.declared.config.Config.{Config}
use Rattle.sms_send.specs.Delivered.{IsBadInbox}
use Rattle.sms_send.specs.Faults.{ComesAt}
use Rattle.sms_send.specs.InboxFiles.{IsInboxFault}
use Rattle.sms_send.specs.Opened.{FailsReadingFile}
use Rattle.sms_send.specs.declared.faults.fault.Fault.{Fault}
use Rattle.sms_send.specs.declared.faults.fault.Fault.TheVariants.{OutOfMemory}
use Rattle.sms_send.proofs.Starts.{memory_at, octets_at}

-- octets are no inbox, or there is no memory for their records
pub bad_file : (octets : List ℕ) (fault : Fault) → (fault ≡ OutOfMemory) ⊎ IsBadInbox fault octets → (config : Config) → IsInboxFault config fault
bad_file octets fault (inl is) config = subst (IsInboxFault config) (sym is) tt
bad_file octets fault (inr (place, unread, is)) config = subst (IsInboxFault config) (sym is) tt

pub bad_early : (octets : List ℕ) (fault : Fault) → (fault ≡ OutOfMemory) ⊎ IsBadInbox fault octets → ComesAt Idle fault
bad_early octets fault (inl is) = memory_at Idle fault refl is
bad_early octets fault (inr (place, unread, is)) = subst (ComesAt Idle) (sym is) refl

-- its file can't be read
pub unread_file : (finds : List ℕ → Option Told → Type 0) (name : String Global) (fault : Fault) → (fault ≡ OutOfMemory) ⊎ FailsReadingFile finds name fault → (config : Config) → IsInboxFault config fault
unread_file finds name fault (inl is) config = subst (IsInboxFault config) (sym is) tt
unread_file finds name fault (inr (inl ((kind, is), lost))) config = subst (IsInboxFault config) (sym is) tt
unread_file finds name fault (inr (inr ((error, kind, is), found))) config = subst (IsInboxFault config) (sym is) tt

pub unread_early : (finds : List ℕ → Option Told → Type 0) (name : String Global) (fault : Fault) → (fault ≡ OutOfMemory) ⊎ FailsReadingFile finds name fault → ComesAt Idle fault
unread_early finds name fault why = octets_at finds Idle name fault refl why
