-- What the faults of what is called come to here.
use Rattle.sms_files.specs.declared.report.fault.OutputFault.{OutputFault}
use Rattle.sms_files.specs.declared.report.fault.OutputFault.TheVariants as output
use Rattle.sms_journal.specs.declared.recovery.fault.RecoveryFault.{RecoveryFault}
use Rattle.std.specs.Prelude.{⊤}
use Rattle.sms_journal.specs.declared.recovery.fault.RecoveryFault.TheVariants.{Output, OutOfMemory}
use Rattle.sms_journal.specs.declared.error.JournalError.{JournalError}
use Rattle.sms_journal.specs.declared.error.JournalError.TheVariants as journal

-- the fault of an output that failed; a body has an `Unwritten` to tell only of an output that answered an error
abbrev pub output_failed : RecoveryFault
output_failed = Output tt

-- memory was refused; a body has a `NoMemory` to tell only of a call that was refused it
abbrev pub out_of_memory : RecoveryFault
out_of_memory = OutOfMemory tt

abbrev pub fault_of_output : OutputFault → RecoveryFault
fault_of_output (output.Output unwritten) = Output unwritten
fault_of_output (output.OutOfMemory refused) = OutOfMemory refused

-- what a check of notes can find: a faulty note, or memory was refused
abbrev pub IsOfNotes : JournalError → Type 0
IsOfNotes (journal.BadRecord place) = ⊥
IsOfNotes (journal.OtherFiles file) = ⊥
IsOfNotes (journal.BadNote place) = ⊤
IsOfNotes journal.Overdrawn = ⊥
IsOfNotes (journal.OutOfMemory refused) = ⊤

-- and what sums can come to
abbrev pub IsOfSums : JournalError → Type 0
IsOfSums (journal.BadRecord place) = ⊥
IsOfSums (journal.OtherFiles file) = ⊥
IsOfSums (journal.BadNote place) = ⊥
IsOfSums journal.Overdrawn = ⊤
IsOfSums (journal.OutOfMemory refused) = ⊤
