use Rattle.sms_send.proofs.args.ledger_run_commands.with_run.Goals as goal

pub returns : goal.returns
returns c = λ line was.
    let filed = c.with_argument-filed.ensures _ _ c.file_option-ledger.ensures.rule was in
    let configured = c.with_argument-configured.ensures _ _ c.file_option-config.ensures.rule filed in
    let noted = c.with_argument-noted.ensures _ _ c.file_option-journal.ensures.rule configured in
    c.with_argument.ensures _ _ c.refs_flag.ensures.rule noted
