use Rattle.std.proofs.Common.{◌≡◌, drop}
use Rattle.sms_files.specs.Whole.{are_whole}
use Rattle.sms_files.proofs.report.whole.are_whole.Given as goal

abbrev pub invariant-loop-end : goal.invariant-loop-end
invariant-loop-end g l = are_whole l.ends ≡ are_whole (drop l.end-index l.ends)
