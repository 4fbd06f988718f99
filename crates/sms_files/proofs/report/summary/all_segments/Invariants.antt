use Rattle.std.proofs.Common.{◌≡◌, take, sum_by}
use Rattle.sms_files.specs.Summary.{capped, segments_in}
use Rattle.sms_files.proofs.report.summary.all_segments.Given as goal

abbrev pub invariant-loop-end : goal.invariant-loop-end
invariant-loop-end g l = l.total ≡ capped (sum_by segments_in (take l.end-index l.ends))
