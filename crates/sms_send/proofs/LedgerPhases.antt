-- The phase in which a fault of a ledger comes: before a worker is started.
use Rattle.std.proofs.Common.{◌≡◌, inl, inr, sym, subst, ℕ, Bool, List, Option, String, Global}
use Rattle.std.specs.declared.io.ErrorKind.{ErrorKind}
use Rattle.sms_book.specs.declared.opening.Opening.{Opening}
use Rattle.sms_devices.specs.declared.ledger.failure.LedgerFailure.{LedgerFailure}
use Rattle.sms_devices.specs.declared.ledger.failure.LedgerFailure.TheVariants as ledger
use Rattle.sms_driver.specs.declared.start.StartPhase.{StartPhase}
use Rattle.sms_driver.specs.declared.start.StartPhase.TheVariants.{Idle}
use Rattle.sms_files.specs.Inputs.{Told}
use Rattle.sms_files.specs.declared.config.Config.{Config}
use Rattle.sms_files.specs.declared.config.FileNames.{FileNames}
use Rattle.sms_files.specs.declared.fault.Source.{Source}
use Rattle.sms_files.specs.declared.input.Input.{Input}
use Rattle.sms_ledger.specs.Books.{State}
use Rattle.sms_ledger.specs.declared.entry.Entry.{Entry}
use Rattle.sms_ledger.specs.declared.fault.Fault.{Fault as LedgerFault}
use Rattle.sms_ledger.specs.declared.fault.Fault.TheVariants as flaw
use Rattle.sms_ledger.specs.declared.refusal.Refusal.{Refusal}
use Rattle.sms_ledger.specs.declared.refusal.Refusal.TheVariants as refusal
use Rattle.sms_send.specs.Faults.{ComesAt, fault_of_booking, fault_of_ledger, fault_of_opening, fault_of_use}
use Rattle.sms_send.specs.Headed.{FailsMessages, FailsOne}
use Rattle.sms_send.specs.LedgerJobs.{LacksNamed, LacksNames}
use Rattle.sms_send.specs.LedgerRuns.{FailsToStand, RefusesAt}
use Rattle.sms_send.specs.LedgerSendings.{FailsBeginOn, FailsHead, FailsNotedOn, FailsPlan}
use Rattle.sms_send.specs.Ledgers.{FailsReading}
use Rattle.sms_send.specs.declared.args.send_args.JournalFile.{JournalFile}
use Rattle.sms_send.specs.declared.faults.fault.Fault.{Fault}
use Rattle.sms_send.specs.declared.files.config_file.ConfigFile.{ConfigFile}
use Rattle.sms_send.specs.declared.files.named_files.NamedFiles.{NamedFiles}
use Rattle.sms_send.proofs.Starts.{memory_at, octets_read_at, unbegun_at}

module _ (b : StartPhase) (yet : b ≡ Idle) where
  -- ---- the file

  use_at : (why : LedgerFailure) → ComesAt b (fault_of_use why)
  use_at (ledger.Unopened kind) = yet
  use_at ledger.NoFile = yet
  use_at ledger.OtherKind = yet
  use_at ledger.Locked = yet
  use_at (ledger.Unread kind) = yet
  use_at (ledger.Unwritten kind) = yet
  use_at (ledger.Torn kind) = yet
  use_at (ledger.OutOfMemory refused) = inl yet

  opening_at : (name : String Global) (why : LedgerFailure) → ComesAt b (fault_of_opening name why)
  opening_at name (ledger.Unopened kind) = yet
  opening_at name ledger.NoFile = yet
  opening_at name ledger.OtherKind = yet
  opening_at name ledger.Locked = yet
  opening_at name (ledger.Unread kind) = yet
  opening_at name (ledger.Unwritten kind) = yet
  opening_at name (ledger.Torn kind) = yet
  opening_at name (ledger.OutOfMemory refused) = inl yet

  flaw_at : (f : LedgerFault) → ComesAt b (fault_of_ledger f)
  flaw_at (flaw.Unreadable place) = yet
  flaw_at (flaw.Refused place cause) = yet
  flaw_at (flaw.Memory refused) = inl yet

  booking_at : (cause : Refusal) → ComesAt b (fault_of_booking cause)
  booking_at refusal.NothingPaid = yet
  booking_at refusal.PaidBefore = yet
  booking_at refusal.TooMuch = yet
  booking_at refusal.NoAccount = yet
  booking_at refusal.NoCredit = yet
  booking_at refusal.TakenBefore = yet
  booking_at refusal.NotTaken = yet
  booking_at refusal.BackBefore = yet
  booking_at refusal.NotBack = yet
  booking_at refusal.Unequal = yet
  booking_at refusal.DecidedBefore = yet
  booking_at refusal.NoDoubt = yet
  booking_at (refusal.OutOfMemory refused) = inl yet

  pub lacks_at : (lacks : List ℕ → LedgerFailure → Type 0) (name : List ℕ) (fault : Fault) → LacksNamed lacks name fault → ComesAt b fault
  lacks_at lacks name fault (inl memory) = memory_at b fault yet memory
  lacks_at lacks name fault (inr (text, same, (why, lacking, told))) = subst (ComesAt b) (sym told) (opening_at text why)

  reads_at : {F : Type 0} (errs : ErrorKind → Type 0) (octets : F → Option (List ℕ)) (file : F) (fault : Fault) → FailsReading errs octets file fault → ComesAt b fault
  reads_at errs octets file fault (inl (why, fails, told)) = subst (ComesAt b) (sym told) (use_at why)
  reads_at errs octets file fault (inr (f, has, told)) = subst (ComesAt b) (sym told) (flaw_at f)

  stands_at : (errs : ErrorKind → Type 0) (text : List ℕ) (old new : Option (List ℕ)) (lines : List ℕ) (fault : Fault) → FailsToStand errs text old new lines fault → ComesAt b fault
  stands_at errs text old new lines fault (inl (kept, inl memory)) = memory_at b fault yet memory
  stands_at errs text old new lines fault (inl (kept, inr (kind, fails, told))) = subst (ComesAt b) (sym told) yet
  stands_at errs text old new lines fault (inr (whole, long, why, leaves, told)) = subst (ComesAt b) (sym told) yet

  -- ---- a run

  refuses_at : (entries : List Entry) (s : State) (fault : Fault) → RefusesAt entries s fault → ComesAt b fault
  refuses_at entries s fault (inl memory) = memory_at b fault yet memory
  refuses_at entries s fault (inr (cause, stops, told)) = subst (ComesAt b) (sym told) (booking_at cause)

  names_at : (openings : List Opening) (fault : Fault) → LacksNames openings fault → ComesAt b fault
  names_at openings fault (inl memory) = memory_at b fault yet memory
  names_at openings fault (inr (told, none)) = subst (ComesAt b) (sym told) yet

  plan_at : (time : ℕ) (octets journal : List ℕ) (input : Input) (s : State) (fault : Fault) → FailsPlan time octets journal input s fault → ComesAt b fault
  plan_at time octets journal input s fault (inl lacks) = names_at _ fault lacks
  plan_at time octets journal input s fault (inr (names, have, refuses)) = refuses_at _ s fault refuses

  noted_at : (config : Config) (named : NamedFiles) (s : State) (strict : Bool) (fault : Fault) → FailsNotedOn config named s strict fault → ComesAt b fault
  noted_at config named s strict fault (inl memory) = memory_at b fault yet memory
  noted_at config named s strict fault (inr (files, accounts, messages, tariff, tells)) = octets_read_at b strict config files fault yet tells

  head_at : {J : Type 0} (makes : List ℕ → J → Type 0) (refuses holds : List ℕ → Type 0) (wanted : JournalFile) (fault : Fault) → FailsHead makes refuses holds wanted fault → ComesAt b fault
  head_at makes refuses holds wanted fault (inl memory) = memory_at b fault yet memory
  head_at makes refuses holds wanted fault (inr (inl (told, held))) = subst (ComesAt b) (sym told) yet
  head_at makes refuses holds wanted fault (inr (inr (inl (kind, text, same, told, refused)))) = subst (ComesAt b) (sym told) yet
  head_at makes refuses holds wanted fault (inr (inr (inr lacks))) = unbegun_at b fault yet lacks

  pub begins_at : {F J : Type 0} (makes : List ℕ → J → Type 0) (refuses holds : List ℕ → Type 0) (wanted : JournalFile) (errs : ErrorKind → Type 0) (octets : F → Option (List ℕ)) (read : ConfigFile) (named : NamedFiles) (strict : Bool) (old new : F) (fault : Fault)
      → FailsBeginOn (FailsHead makes refuses holds wanted) errs octets read named strict old new fault → ComesAt b fault
  begins_at makes refuses holds wanted errs octets read named strict old new fault (inl (kept, inl reads)) = reads_at errs octets old fault reads
  begins_at makes refuses holds wanted errs octets read named strict old new fault (inl (kept, inr (inl memory))) = memory_at b fault yet memory
  begins_at makes refuses holds wanted errs octets read named strict old new fault (inl (kept, inr (inr (inl head)))) = head_at makes refuses holds wanted fault head
  begins_at makes refuses holds wanted errs octets read named strict old new fault (inl (kept, inr (inr (inr (text, s, is, inl noted))))) = noted_at read.config named s strict fault noted
  begins_at makes refuses holds wanted errs octets read named strict old new fault (inl (kept, inr (inr (inr (text, s, is, inr (time, journal, input, plan)))))) = plan_at time text journal input s fault plan
  begins_at makes refuses holds wanted errs octets read named strict old new fault (inr (text, lines, s, is, stands)) = stands_at errs text (octets old) (octets new) lines fault stands

  -- ---- messages and tariff

  one_at : (finds : List ℕ → Option Told → Type 0) (name : List ℕ) (source : Source) (fault : Fault) → FailsOne finds name source fault → ComesAt b fault
  one_at finds name source fault (inl memory) = memory_at b fault yet memory
  one_at finds name source fault (inr (inl ((kind, text, same, told), lost))) = subst (ComesAt b) (sym told) yet
  one_at finds name source fault (inr (inr ((error, told), found))) = subst (ComesAt b) (sym told) yet

  pub messages_at : (finds : List ℕ → Option Told → Type 0) (names : FileNames) (fault : Fault) → FailsMessages finds names fault → ComesAt b fault
  messages_at finds names fault (inl fails) = one_at finds _ _ fault fails
  messages_at finds names fault (inr fails) = one_at finds _ _ fault fails
