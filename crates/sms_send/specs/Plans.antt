-- What a plan warns of, and why it fails.
use Rattle.std.specs.Prelude.{◌≡◌, ◌⊎◌, ◌++◌, ℕ, List, [], Option, codes, decimal, length}
use Rattle.std.specs.Io.KnownBytes.{Appends}
use Rattle.sms_files.specs.Fields.{Record, records_of}
use Rattle.sms_files.specs.Messages.{messages_fault}
use Rattle.sms_files.specs.Quoting.{EndsQuoted}
use Rattle.sms_files.specs.declared.fault.Source.TheVariants.{Messages}
use Rattle.sms_files.specs.Output.{WritesFront}
use Rattle.sms_send.specs.Opened.{FailsFileJob}
use Rattle.sms_send.specs.declared.faults.fault.Fault.{Fault}

-- the record that a fault names is the first faulty one; where the output failed, none was
abbrev pub FailsPlan : List Record → Fault → Type 0
FailsPlan rs = FailsFileJob Messages (messages_fault rs)

-- the quote of a record is open: all that stands behind it is read as that record
abbrev pub quote_line : ℕ → List ℕ
quote_line place = codes "warning: messages record " ++ decimal place ++ codes ": its quote is open, it goes on to the end of the file\n"

-- what there is to warn of: where the file ends within a quote, of its last record; else nothing
abbrev pub IsWarning : List ℕ → List ℕ → Type 0
IsWarning bytes text = (EndsQuoted bytes × (text ≡ quote_line (length (records_of bytes)))) ⊎ ((¬ EndsQuoted bytes) × (text ≡ []))

-- that was written to standard error, and nothing else
abbrev pub Warns : List ℕ → Option (List ℕ) → Option (List ℕ) → Type 0
Warns bytes error_old error_new = (text : List ℕ) × IsWarning bytes text × Appends error_old error_new text

-- the beginning of that was written
abbrev pub BeginsWarning : List ℕ → Option (List ℕ) → Option (List ℕ) → Type 0
BeginsWarning bytes error_old error_new = (text : List ℕ) × IsWarning bytes text × WritesFront error_old error_new text
