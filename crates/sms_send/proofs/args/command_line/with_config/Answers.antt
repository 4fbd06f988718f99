use Rattle.sms_send.proofs.args.command_line.with_config.Goals as goal

pub returns : goal.returns
returns c = λ line was.
    let configured = c.with_argument-configured.ensures _ _ c.file_option-config.ensures.rule was in
    let fielded = c.with_argument-fielded.ensures _ _ c.value_option-fields.ensures.rule configured in
    c.with_argument.ensures _ _ c.flag-quiet.ensures.rule fielded
