-- What `quote` prints of the files that a config names, what it warns of, and why it fails.
use Rattle.std.specs.Prelude.{◌≡◌, ◌⊎◌, ◌++◌, ◌||◌, ℕ, Bool, false, List, Option, None, Some, String, string_bytes, if◌then◌else◌}
use Rattle.std.specs.Io.KnownBytes.{Appends}
use Rattle.std.specs.declared.alloc.Global.{Global}
use Rattle.sms_files.specs.Inputs.{Told}
use Rattle.sms_files.specs.declared.config.Config.{Config}
use Rattle.sms_files.specs.declared.config.FileNames.{FileNames}
use Rattle.sms_files.specs.declared.input.Input.{Input}
use Rattle.sms_files.specs.QuoteText.{IsQuoteText}
use Rattle.sms_files.specs.Warnings.{warning_lines}
use Rattle.sms_files.specs.Output.{WritesFront}
use Rattle.sms_send.specs.ConfigFiles.{FailsReadingConfig, OfConfig}
use Rattle.sms_send.specs.Faults.{output_failed}
use Rattle.sms_send.specs.FullNames.{AreLinesIfKept}
use Rattle.sms_send.specs.Reading.{IsRead, IsUnread}
use Rattle.sms_send.specs.declared.faults.fault.Fault.{Fault}
use Rattle.sms_send.specs.declared.faults.fault.Fault.TheVariants.{OutOfMemory}

-- ---- of an input

-- the text is the input's quote
abbrev pub HasQuote : Input → List ℕ → Type 0
HasQuote input text = IsQuoteText input.openings.items input.config.flags.long_reference input.tariff input.messages.items text

-- what its messages are warned of
abbrev pub warnings_of : Input → List ℕ
warnings_of input = warning_lines input.messages.items

-- its quote was written and nothing else
pub record PrintsQuote (input : Input) (old new : Option (List ℕ)) : Type 0 where
  pub text : List ℕ
  pub quote : HasQuote input text
  pub written : Appends old new text

-- the beginning of its quote was written and nothing else
pub record BeginsQuote (input : Input) (old new : Option (List ℕ)) : Type 0 where
  pub text : List ℕ
  pub quote : HasQuote input text
  pub front : WritesFront old new text

-- memory ran out, or the output failed after the beginning of the quote
abbrev pub FailsQuoting : Input → Option (List ℕ) → Option (List ℕ) → Fault → Type 0
FailsQuoting input old new fault = (fault ≡ OutOfMemory) ⊎ ((fault ≡ output_failed) × BeginsQuote input old new)

-- ---- of an input that was read so

-- its quote was written, to standard error its warnings and behind them these lines, and nothing else
pub record Quotes (is_read : Input → Type 0) (lines : List ℕ) (old new error_old error_new : Option (List ℕ)) : Type 0 where
  pub input : Input
  pub read : is_read input
  pub printed : PrintsQuote input old new
  pub warned : Appends error_old error_new (warnings_of input ++ lines)

-- where the output failed, the beginning of these was written to standard error
pub record BeginsWarnings (is_read : Input → Type 0) (lines : List ℕ) (error_old error_new : Option (List ℕ)) : Type 0 where
  pub input : Input
  pub read : is_read input
  pub front : WritesFront error_old error_new (warnings_of input ++ lines)

-- there is no such input, for this reason, or its quote failed
abbrev pub FailsQuote : (Input → Type 0) → (Fault → Type 0) → Option (List ℕ) → Option (List ℕ) → Fault → Type 0
FailsQuote is_read is_unread old new fault = is_unread fault ⊎ ((input : Input) × is_read input × FailsQuoting input old new fault)

-- ---- of the files that a config names

-- they were read, and their quote was written
abbrev pub QuotesFiles : (List ℕ → Option Told → Type 0) → Option (List ℕ) → Option (List ℕ) → Config → Type 0
QuotesFiles finds old new config = (input : Input) × IsRead finds false false config input × PrintsQuote input old new

-- why it wasn't, by the config of a name
abbrev pub FailsQuoteJob : (List ℕ → Option Told → Type 0) → String Global → Option (List ℕ) → Option (List ℕ) → Fault → Type 0
FailsQuoteJob finds name old new fault =
    FailsReadingConfig finds name fault ⊎ OfConfig finds (string_bytes name) (λ config. FailsQuote (IsRead finds false false config) (IsUnread finds false false config) old new fault)

-- the lines of a config of this name and of its files: where details are wanted their full names, and else none
abbrev pub AreLinesAt : (List ℕ → List ℕ → Type 0) → Bool → List ℕ → FileNames → List ℕ → Type 0
AreLinesAt is_full at_length name names lines = AreLinesIfKept is_full (if at_length then Some name else None) names lines

-- the quote was written, and to standard error the warnings and behind them those lines
abbrev pub QuotesNamed : (List ℕ → Option Told → Type 0) → (List ℕ → List ℕ → Type 0) → Bool → List ℕ → Option (List ℕ) → Option (List ℕ) → Option (List ℕ) → Option (List ℕ) → Config → Type 0
QuotesNamed finds is_full at_length name old new error_old error_new config =
    (lines : List ℕ) × AreLinesAt is_full at_length name config.files lines × Quotes (IsRead finds false false config) lines old new error_old error_new

-- where the output failed, the beginning of these was written to standard error
abbrev pub BeginsNamedWarnings : (List ℕ → Option Told → Type 0) → (List ℕ → List ℕ → Type 0) → Bool → List ℕ → Option (List ℕ) → Option (List ℕ) → Config → Type 0
BeginsNamedWarnings finds is_full at_length name error_old error_new config =
    (lines : List ℕ) × AreLinesAt is_full at_length name config.files lines × BeginsWarnings (IsRead finds false false config) lines error_old error_new

-- so by the config of a name, with details where they are wanted of each run or of this one
abbrev pub QuotesAsAsked : (List ℕ → Option Told → Type 0) → (List ℕ → List ℕ → Type 0) → (Bool → Type 0) → String Global → Bool → Option (List ℕ) → Option (List ℕ) → Option (List ℕ) → Option (List ℕ) → Type 0
QuotesAsAsked finds is_full wants name verbose old new error_old error_new =
    (details : Bool) × wants details × OfConfig finds (string_bytes name) (QuotesNamed finds is_full (details || verbose) (string_bytes name) old new error_old error_new)

abbrev pub BeginsAsAsked : (List ℕ → Option Told → Type 0) → (List ℕ → List ℕ → Type 0) → (Bool → Type 0) → String Global → Bool → Option (List ℕ) → Option (List ℕ) → Type 0
BeginsAsAsked finds is_full wants name verbose error_old error_new =
    (details : Bool) × wants details × OfConfig finds (string_bytes name) (BeginsNamedWarnings finds is_full (details || verbose) (string_bytes name) error_old error_new)
