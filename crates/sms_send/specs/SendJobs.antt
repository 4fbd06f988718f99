-- What `loop` and `send` do, and why they fail.
-- What connections to a centre will give, written to behind a journal or not, in each round to each bind, is a relation of the world that the program runs in: `tells`.
use Rattle.std.specs.Prelude.{◌⊎◌, ◌||◌, ℕ, Bool, true, false, List, Option, Some, None, is_some, string_bytes}
use Rattle.sms_devices.specs.Centres.{CentreAt}
use Rattle.sms_files.specs.Inputs.{Told}
use Rattle.sms_files.specs.declared.config.Config.{Config}
use Rattle.sms_files.specs.declared.input.Input.{Input}
use Rattle.sms_send.specs.Words.{bytes_of}
use Rattle.sms_send.specs.ConfigFiles.{FailsReadingConfig, OfConfig}
use Rattle.sms_send.specs.FieldFiles.{AreFieldsAt, FailsFields}
use Rattle.sms_send.specs.InboxFiles.{LacksInbox}
use Rattle.sms_send.specs.Noted.{FailsNoted}
use Rattle.sms_send.specs.Reached.{centre_in}
use Rattle.sms_send.specs.Reading.{IsRead, IsUnread}
use Rattle.sms_send.specs.Sent.{FailsSending, SendsInput}
use Rattle.sms_send.specs.declared.args.send_args.Again.{Again}
use Rattle.sms_send.specs.declared.args.send_args.JournalFile.{JournalFile}
use Rattle.sms_send.specs.declared.args.send_args.SendArgs.{SendArgs}
use Rattle.sms_send.specs.declared.faults.fault.Fault.{Fault}
use Rattle.sms_send.specs.declared.sending.target.TargetKind.{TargetKind}
use Rattle.sms_send.specs.declared.sending.work.Work.TheVariants.{All}

-- the config has the fields that are wanted; the files that it names were read, to their ends first where that is strict or for a journal, and what they say was sent to the
-- centre that it names
pub record SendsBy (finds : List ℕ → Option Told → Type 0) (tells : CentreAt → Bool → ℕ → ℕ → Told) (kind : TargetKind) (wanted : Option (List ℕ)) (again : Option Again) (strict noted : Bool) (old new : Option (List ℕ)) (status : ℕ) (config : Config) : Type 0 where
  pub fields : AreFieldsAt finds wanted config.fields
  pub input : Input
  pub read : IsRead finds (strict || noted) strict config input
  pub sends : SendsInput (tells (centre_in kind config) noted) again strict input old new status

-- why the input wasn't sent, with a journal or without
abbrev pub FailsInput : (JournalFile → Fault → Type 0) → CentreAt → (Bool → ℕ → ℕ → Told) → Option Again → Bool → Option JournalFile → Input → Option (List ℕ) → Option (List ℕ) → Fault → Type 0
FailsInput begins centre tells again strict None input old new fault = FailsSending centre (tells false) again (All input) old new fault
FailsInput begins centre tells again strict (Some journal) input old new fault = FailsNoted (begins journal) centre (tells true) again strict input old new fault

-- why nothing was sent by this config: a file isn't there or is faulty, or the sending failed
abbrev pub FailsBy : (JournalFile → Fault → Type 0) → (List ℕ → Option Told → Type 0) → (CentreAt → Bool → ℕ → ℕ → Told) → TargetKind → Option (List ℕ) → Option Again → Bool → Option JournalFile → Option (List ℕ) → Option (List ℕ) → Fault → Config → Type 0
FailsBy begins finds tells kind wanted again strict journal old new fault config =
    IsUnread finds (strict || is_some journal) strict config fault
    ⊎ (AreFieldsAt finds wanted config.fields × (input : Input) × IsRead finds (strict || is_some journal) strict config input × FailsInput begins (centre_in kind config) (tells (centre_in kind config)) again strict journal input old new fault)

-- by these arguments: the config or the fields can't be read, there is no inbox where one is asked for, memory ran out, or it failed so
abbrev pub FailsSendJob : (JournalFile → Fault → Type 0) → (List ℕ → Option Told → Type 0) → (CentreAt → Bool → ℕ → ℕ → Told) → TargetKind → SendArgs → Option (List ℕ) → Option (List ℕ) → Fault → Type 0
FailsSendJob begins finds tells kind order old new fault =
    FailsReadingConfig finds order.config fault
    ⊎ (FailsFields finds (bytes_of order.fields) fault ⊎ OfConfig finds (string_bytes order.config) (λ config. LacksInbox (bytes_of order.lines.inbox) config fault) ⊎ OfConfig finds (string_bytes order.config) (FailsBy begins finds tells kind (bytes_of order.fields) order.again order.strict order.journal old new fault))
