use Rattle.std.proofs.Common.{◌≡◌}
use Rattle.toml.specs.View.{table_view}
use Rattle.sms_files.specs.SubmitFields.{unknown_field}
use Rattle.sms_files.proofs.FieldKeys.{first_unknown}
use Rattle.sms_files.proofs.fields.keys.check_fields.Given as goal

abbrev pub invariant-loop-key : goal.invariant-loop-key
invariant-loop-key l = unknown_field (table_view l.table) ≡ first_unknown l.key-iterator
