use Rattle.sms_send.proofs.args.command_line.plan_command.Goals as goal

pub returns : goal.returns
returns c =
    let filed = c.with_argument-filed.ensures _ _ c.file_option-messages.ensures.rule c.subcommand-begun.ensures in
    let longer = c.with_argument-longer.ensures _ _ c.flag-long.ensures.rule filed in
    let referred = c.with_argument-referred.ensures _ _ c.refs_flag.ensures.rule longer in
    c.with_argument.ensures _ _ c.verbose_flag.ensures.rule referred
