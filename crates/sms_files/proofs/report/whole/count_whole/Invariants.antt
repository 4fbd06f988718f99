use Rattle.std.proofs.Common.{◌≡◌, take, sum_by}
use Rattle.sms_files.specs.Summary.{capped}
use Rattle.sms_files.specs.Whole.{counts_whole}
use Rattle.sms_files.proofs.report.whole.count_whole.Given as goal

abbrev pub invariant-loop-end : goal.invariant-loop-end
invariant-loop-end g l = l.total ≡ capped (sum_by counts_whole (take l.end-index l.ends))
