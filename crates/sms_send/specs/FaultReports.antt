-- What is written to standard error of a fault: its line, and the detail lines after it. What the details say is not stated here.
use Rattle.std.specs.Prelude.{◌≡◌, ℕ, Bool, false, ◌||◌, List, [], ◌++◌, Option, codes, length, ◌==◌, if◌then◌else◌}
use Rattle.std.specs.Io.KnownBytes.{Appends}
use Rattle.sms_send.specs.Faults.{fault_text}
use Rattle.sms_send.specs.Shown.{indented}
use Rattle.sms_send.specs.declared.faults.fault.Fault.{Fault}

-- the detail lines, each two columns in; none for an empty text
abbrev pub detail_lines : List ℕ → List ℕ
detail_lines details = if length details == 0 then [] else codes "  " ++ indented details ++ codes "\n"

-- a fault's line, and its detail lines
abbrev pub report_text : Fault → List ℕ → List ℕ
report_text fault details = fault_text fault ++ codes "\n" ++ detail_lines details

-- a fault was written, with some detail lines, and nothing else
pub record ReportsFault (wants : Bool → Type 0) (verbose : Bool) (fault : Fault) (old : Option (List ℕ)) (new : Option (List ℕ)) : Type 0 where
  -- whether the terminal or the environment asks for details
  pub details : Bool
  pub are_wanted : wants details
  -- the details, and that there are none where neither it nor an argument asks for them
  pub lines : List ℕ
  pub alone : (details || verbose) ≡ false → lines ≡ []
  pub written : Appends old new (report_text fault lines)
