use Rattle.std.proofs.Common.{take}
use Rattle.csv.specs.declared.parser.State.TheVariants.{StartRecord}
use Rattle.sms_files.specs.Quoting.{state_behind}
use Rattle.sms_files.proofs.Quotes.{Stands}
use Rattle.sms_files.proofs.tables.quoting.ends_quoted.Given as goal

abbrev pub invariant-loop-octet : goal.invariant-loop-octet
invariant-loop-octet l = Stands (state_behind StartRecord (take l.octet-index l.octet-items)) l.place
