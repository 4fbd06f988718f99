use Rattle.std.proofs.Common.{◌≡◌, drop}
use Rattle.sms_files.specs.Report.{has_unanswered}
use Rattle.sms_files.proofs.report.status.is_some_unanswered.Given as goal

abbrev pub invariant-loop-segment : goal.invariant-loop-segment
invariant-loop-segment g l = has_unanswered l.segments ≡ has_unanswered (drop l.segment-index l.segments)
