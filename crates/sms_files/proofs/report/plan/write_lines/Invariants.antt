use Rattle.std.proofs.Common.{◌≡◌, ◌++◌, drop}
use Rattle.std.specs.Prelude.{string_bytes}
use Rattle.sms_files.specs.PlanText.{message_lines}
use Rattle.sms_files.proofs.report.plan.write_lines.Given as goal

abbrev pub invariant-loop-index : goal.invariant-loop-index
invariant-loop-index l =
    string_bytes l.text ++ message_lines l.reference l.index (drop l.index l.messages) ≡ string_bytes l.initial.text ++ message_lines l.reference 0 l.messages
