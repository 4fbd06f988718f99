use Rattle.sms_send.proofs.args.command_line.resume_command.Goals as goal

pub returns : goal.returns
returns c =
    let quieted = c.with_config-quieted.ensures _ c.subcommand-begun.ensures in
    let noted = c.with_argument-noted.ensures _ _ c.file_option-journal.ensures.rule quieted in
    c.with_ledger.ensures _ (c.with_sending.ensures _ noted)
