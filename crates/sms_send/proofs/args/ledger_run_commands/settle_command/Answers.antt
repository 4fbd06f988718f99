use Rattle.sms_send.proofs.args.ledger_run_commands.settle_command.Goals as goal

pub returns : goal.returns
returns c =
    let named = c.with_run-named.ensures _ c.subcommand-begun.ensures in
    c.with_argument.ensures _ _ c.verbose_flag.ensures.rule named
