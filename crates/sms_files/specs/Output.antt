-- What became of a text that was to be written.
use Rattle.std.specs.Prelude.{◌≡◌, ℕ, List, ◌++◌, Option}
use Rattle.std.specs.Io.KnownBytes.{Appends}
use Rattle.sms_files.specs.declared.report.fault.OutputFault.{OutputFault}
use Rattle.sms_files.specs.declared.report.fault.OutputFault.TheVariants.{Output}

-- some first octets of the text were written, maybe none, and nothing else
pub record WritesFront (old new : Option (List ℕ)) (text : List ℕ) : Type 0 where
  pub front : List ℕ
  pub back : List ℕ
  pub whole : text ≡ front ++ back
  pub out : Appends old new front

-- the fault of an output that failed; a body has an `Unwritten` to tell only of an output that answered an error
abbrev pub output_failed : OutputFault
output_failed = Output tt
