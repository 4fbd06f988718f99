use Rattle.std.proofs.Common.{◌≡◌, ◌++◌, drop}
use Rattle.std.specs.Prelude.{string_bytes}
use Rattle.sms_files.specs.PlanText.{size_texts}
use Rattle.sms_files.proofs.report.plan.write_sizes.Given as goal

abbrev pub invariant-loop-part : goal.invariant-loop-part
invariant-loop-part l = string_bytes l.text ++ size_texts (drop l.part-index l.parts) ≡ string_bytes l.initial.text ++ size_texts l.parts
