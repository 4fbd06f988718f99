use Rattle.std.proofs.Common.{take}
use Rattle.sms_files.proofs.Tallies.{Counts}
use Rattle.sms_files.proofs.report.tally.tally_of.Given as goal

abbrev pub invariant-loop-end : goal.invariant-loop-end
invariant-loop-end g l = Counts l.tally (take l.end-index l.ends)
