use Rattle.std.proofs.Common.{◌≡◌, take}
use Rattle.sms_files.specs.Summary.{credits_of}
use Rattle.sms_files.proofs.report.summary.credits_of.Given as goal

abbrev pub invariant-loop-row : goal.invariant-loop-row
invariant-loop-row l = l.credits ≡ credits_of (take l.row-index l.rows)
