use Rattle.std.proofs.Common.{ap}
use Rattle.std.specs.Prelude.{string_bytes}
use Rattle.sms_core.specs.State.{rows}
use Rattle.sms_files.specs.ReplayText.{row_line}
use Rattle.sms_files.proofs.Below.{more-text, no-text}
use Rattle.sms_files.proofs.report.replay.write_accounts.Goals as goal

pub loop-account-init : goal.loop-account-init
loop-account-init c = no-text (string_bytes c.args.text.now) (λ account. row_line account (rows c.args.world.now account))

pub loop-account-preserved : goal.loop-account-preserved
loop-account-preserved c =
    more-text (string_bytes c.loop-account.text) (string_bytes c.args.text.now) (string_bytes c.write_account.new.text) (row_line c.loop-account.account c.row.result) c.loop-account.account
    (λ account. row_line account (rows c.args.world.now account)) c.loop-account.invariant (ap (row_line c.loop-account.account) c.row.ensures) c.in_ok-write_account.ensures
