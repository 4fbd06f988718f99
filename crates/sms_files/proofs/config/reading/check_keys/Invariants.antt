use Rattle.std.proofs.Common.{◌≡◌}
use Rattle.toml.specs.View.{table_view}
use Rattle.sms_files.specs.Config.{unknown_key}
use Rattle.sms_files.proofs.Keys.{first_unknown}
use Rattle.sms_files.proofs.config.reading.check_keys.Given as goal

abbrev pub invariant-loop-key : goal.invariant-loop-key
invariant-loop-key l = unknown_key (table_view l.table) ≡ first_unknown l.key-iterator
