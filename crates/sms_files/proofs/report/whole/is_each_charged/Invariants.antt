use Rattle.std.proofs.Common.{◌≡◌, drop}
use Rattle.std.specs.List.{list_all}
use Rattle.sms_files.specs.Whole.{is_charged}
use Rattle.sms_files.proofs.report.whole.is_each_charged.Given as goal

abbrev pub invariant-loop-segment : goal.invariant-loop-segment
invariant-loop-segment g l = list_all (λ s. is_charged s.outcome) l.segments ≡ list_all (λ s. is_charged s.outcome) (drop l.segment-index l.segments)
