use Rattle.sms_send.proofs.args.ledger_commands.balance_command.Goals as goal

pub returns : goal.returns
returns c =
    let filed = c.with_argument-filed.ensures _ _ c.file_option-ledger.ensures.rule c.subcommand-begun.ensures in
    c.with_argument.ensures _ _ c.verbose_flag.ensures.rule filed
