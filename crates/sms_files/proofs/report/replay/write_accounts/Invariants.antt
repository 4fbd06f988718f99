use Rattle.std.proofs.Common.{◌≡◌, ◌++◌}
use Rattle.std.specs.Prelude.{string_bytes}
use Rattle.sms_core.specs.State.{rows}
use Rattle.sms_files.specs.ReplayText.{each_below, row_line}
use Rattle.sms_files.proofs.report.replay.write_accounts.Given as goal

abbrev pub invariant-loop-account : goal.invariant-loop-account
invariant-loop-account l =
    string_bytes l.text ≡ string_bytes l.initial.text ++ each_below l.account (λ account. row_line account (rows l.world account))
