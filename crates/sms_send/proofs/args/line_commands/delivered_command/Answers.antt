use Rattle.sms_send.proofs.args.line_commands.delivered_command.Goals as goal

pub returns : goal.returns
returns c =
    let configured = c.with_argument-configured.ensures _ _ c.file_option-config.ensures.rule c.subcommand-begun.ensures in
    let noted = c.with_argument-noted.ensures _ _ c.file_option-journal.ensures.rule configured in
    let kept = c.with_argument-kept.ensures _ _ c.file_option-inbox.ensures.rule noted in
    let spelled = c.with_argument-spelled.ensures _ _ c.ids_option.ensures.rule kept in
    let referred = c.with_argument-referred.ensures _ _ c.refs_flag.ensures.rule spelled in
    c.with_argument.ensures _ _ c.verbose_flag.ensures.rule referred
