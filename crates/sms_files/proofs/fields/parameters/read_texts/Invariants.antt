use Rattle.std.proofs.Common.{◌≡◌, Some, map, string_bytes, take}
use Rattle.sms_files.specs.Parameters.{parameters_of}
use Rattle.sms_files.proofs.fields.parameters.read_texts.Given as goal

abbrev pub invariant-loop-place : goal.invariant-loop-place
invariant-loop-place l = parameters_of (take l.place (map string_bytes l.texts)) ≡ Some l.parameters.items
