use Rattle.sms_send.proofs.args.command_line.replay_command.Goals as goal

pub returns : goal.returns
returns c =
    let named = c.with_argument-named.ensures _ _ c.name_argument.ensures.rule c.subcommand-begun.ensures in
    c.with_argument.ensures _ _ c.verbose_flag.ensures.rule named
