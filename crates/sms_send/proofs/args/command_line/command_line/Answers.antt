use Rattle.std.proofs.Common.{codes, ◌≡◌}
use Rattle.std.proofs.lemmas.Result.{IfOk-weaker}
use Rattle.clap.specs.Words.{App, app_of, with_subcommand}
use Rattle.sms_send.specs.CommandLine.{audit_line, balance_line, bill_line, decide_line, doubtful_line, plan_line, program_line, quote_line, recover_line, replay_line, rest_line, resume_line, send_line, settle_line, stop_line, topup_line}
use Rattle.sms_send.proofs.JobsDone.{subcommand-added}
use Rattle.sms_send.proofs.args.command_line.command_line.Goals as goal

-- the program with the subcommands that replay, plan and quote
abbrev quoting_line : App
quoting_line = with_subcommand (with_subcommand (with_subcommand program_line replay_line.top) plan_line.top) quote_line.top

-- and with those that send
abbrev senders_line : App
senders_line = with_subcommand (with_subcommand quoting_line (send_line (codes "loop")).top) (send_line (codes "send")).top

-- and with those that look at what was sent
abbrev left_line : App
left_line = with_subcommand (with_subcommand (with_subcommand (with_subcommand senders_line resume_line.top) stop_line.top) recover_line.top) rest_line.top

-- and with those that list its parts
abbrev listing_line : App
listing_line = with_subcommand (with_subcommand left_line bill_line.top) doubtful_line.top

-- and with the one that pays
abbrev paying_line : App
paying_line = with_subcommand (with_subcommand listing_line audit_line.top) topup_line.top

-- and with those that say what a ledger has, and give back to it
abbrev settling_line : App
settling_line = with_subcommand (with_subcommand paying_line balance_line.top) settle_line.top

pub returns : goal.returns
returns c =
    let replaying : app_of c.in_ok-replaying.replaying ≡ with_subcommand program_line replay_line.top =
    subcommand-added _ _ _ _ c.replay_command.result c.in_ok-replaying.ensures c.replay_command.ensures c.in_ok-program.ensures in
    let planning : app_of c.in_ok-planning.planning ≡ with_subcommand (with_subcommand program_line replay_line.top) plan_line.top =
    subcommand-added _ _ _ _ c.plan_command.result c.in_ok-planning.ensures c.plan_command.ensures replaying in
    let quoting : app_of c.in_ok-quoting.quoting ≡ quoting_line =
    subcommand-added _ _ _ _ c.quote_command.result c.in_ok-quoting.ensures c.quote_command.ensures planning in
    let either : app_of c.in_ok-either.either ≡ with_subcommand quoting_line (send_line (codes "loop")).top =
    subcommand-added _ _ _ _ c.with_ledger.result c.in_ok-either.ensures (c.with_ledger.ensures _ c.sender_command-looping.ensures) quoting in
    let both : app_of c.in_ok-both.both ≡ senders_line =
    subcommand-added _ _ _ _ c.with_ledger-2.result c.in_ok-both.ensures (c.with_ledger-2.ensures _ c.sender_command-sending.ensures) either in
    let going_on : app_of c.in_ok-going_on.going_on ≡ with_subcommand senders_line resume_line.top =
    subcommand-added _ _ _ _ c.resume_command.result c.in_ok-going_on.ensures c.resume_command.ensures both in
    let stopping : app_of c.in_ok-stopping.stopping ≡ with_subcommand (with_subcommand senders_line resume_line.top) stop_line.top =
    subcommand-added _ _ _ _ c.stop_command.result c.in_ok-stopping.ensures c.stop_command.ensures going_on in
    let recovering : app_of c.in_ok-recovering.recovering ≡ with_subcommand (with_subcommand (with_subcommand senders_line resume_line.top) stop_line.top) recover_line.top =
    subcommand-added _ _ _ _ c.recover_command.result c.in_ok-recovering.ensures c.recover_command.ensures stopping in
    let left : app_of c.in_ok-left.left ≡ left_line =
    subcommand-added _ _ _ _ c.rest_command.result c.in_ok-left.ensures c.rest_command.ensures recovering in
    let billing : app_of c.in_ok-billing.billing ≡ with_subcommand left_line bill_line.top =
    subcommand-added _ _ _ _ c.bill_command.result c.in_ok-billing.ensures c.bill_command.ensures left in
    let doubting : app_of c.in_ok-doubting.doubting ≡ listing_line =
    subcommand-added _ _ _ _ c.doubtful_command.result c.in_ok-doubting.ensures c.doubtful_command.ensures billing in
    let auditing : app_of c.in_ok-auditing.auditing ≡ with_subcommand listing_line audit_line.top =
    subcommand-added _ _ _ _ c.audit_command.result c.in_ok-auditing.ensures c.audit_command.ensures doubting in
    let paying : app_of c.in_ok-paying.paying ≡ with_subcommand (with_subcommand listing_line audit_line.top) topup_line.top =
    subcommand-added _ _ _ _ c.topup_command.result c.in_ok-paying.ensures c.topup_command.ensures auditing in
    let balancing : app_of c.in_ok-balancing.balancing ≡ with_subcommand paying_line balance_line.top =
    subcommand-added _ _ _ _ c.balance_command.result c.in_ok-balancing.ensures c.balance_command.ensures paying in
    let settling : app_of c.in_ok-settling.settling ≡ settling_line =
    subcommand-added _ _ _ _ c.settle_command.result c.in_ok-settling.ensures c.settle_command.ensures balancing in
    let deciding : app_of c.in_ok-deciding.deciding ≡ with_subcommand settling_line decide_line.top =
    subcommand-added _ _ _ _ c.decide_command.result c.in_ok-deciding.ensures c.decide_command.ensures settling in
    IfOk-weaker c.with_subcommand-17.result _ _ (λ r adds. subcommand-added _ r _ _ c.delivered_command.result adds c.delivered_command.ensures deciding) c.with_subcommand-17.ensures
