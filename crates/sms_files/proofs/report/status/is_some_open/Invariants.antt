use Rattle.std.proofs.Common.{◌≡◌, drop}
use Rattle.sms_files.specs.Report.{some_unanswered}
use Rattle.sms_files.proofs.report.status.is_some_open.Given as goal

abbrev pub invariant-loop-end : goal.invariant-loop-end
invariant-loop-end g l = some_unanswered l.ends ≡ some_unanswered (drop l.end-index l.ends)
