use Rattle.sms_send.proofs.args.run_commands.audit_command.Goals as goal

pub returns : goal.returns
returns c =
    let configured = c.with_argument-configured.ensures _ _ c.file_option-config.ensures.rule c.subcommand-begun.ensures in
    let reported = c.with_argument-reported.ensures _ _ c.file_option-report.ensures.rule configured in
    let referred = c.with_argument-referred.ensures _ _ c.refs_flag.ensures.rule reported in
    c.with_argument.ensures _ _ c.verbose_flag.ensures.rule referred
