use Rattle.sms_send.proofs.args.command_line.stop_command.Goals as goal

pub returns : goal.returns
returns c =
    let noted = c.with_argument-noted.ensures _ _ c.file_option-journal.ensures.rule c.subcommand-begun.ensures in
    c.with_argument.ensures _ _ c.verbose_flag.ensures.rule noted
