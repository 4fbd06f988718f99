use Rattle.sms_send.proofs.args.command_line.quote_command.Goals as goal

pub returns : goal.returns
returns c =
    let configured = c.with_argument-configured.ensures _ _ c.file_option-config.ensures.rule c.subcommand-begun.ensures in
    let referred = c.with_argument-referred.ensures _ _ c.refs_flag.ensures.rule configured in
    c.with_argument.ensures _ _ c.verbose_flag.ensures.rule referred
