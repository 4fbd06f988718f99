use Rattle.std.proofs.Common.{◌≡◌, ◌++◌, ◌+◌, drop}
use Rattle.std.specs.Prelude.{string_bytes}
use Rattle.sms_files.specs.Report.{segment_texts}
use Rattle.sms_files.proofs.report.report.write_segments.Given as goal

abbrev pub invariant-loop-place : goal.invariant-loop-place
invariant-loop-place g l =
    string_bytes l.text ++ segment_texts l.index (l.place + 1) (drop l.place l.segments) ≡ string_bytes l.initial.text ++ segment_texts l.index 1 l.segments
