use Rattle.std.proofs.Common.{◌≡◌, take}
use Rattle.sms_files.specs.Tally.{segments_standing}
use Rattle.sms_files.proofs.report.tally.message_standing.Given as goal

abbrev pub invariant-loop-segment : goal.invariant-loop-segment
invariant-loop-segment g l = l.all ≡ segments_standing (take l.segment-index l.segment-items)
