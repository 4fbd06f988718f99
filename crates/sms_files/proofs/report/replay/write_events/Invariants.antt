use Rattle.std.proofs.Common.{◌≡◌, ◌+◌, ◌++◌, drop}
use Rattle.std.specs.Prelude.{string_bytes}
use Rattle.sms_files.specs.ReplayText.{event_lines}
use Rattle.sms_files.proofs.report.replay.write_events.Given as goal

abbrev pub invariant-loop-index : goal.invariant-loop-index
invariant-loop-index l =
    string_bytes l.text ++ event_lines (l.index + 1) (drop l.index l.answers) ≡ string_bytes l.initial.text ++ event_lines 1 l.answers
