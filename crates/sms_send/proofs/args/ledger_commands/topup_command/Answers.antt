use Rattle.sms_send.proofs.args.ledger_commands.topup_command.Goals as goal

pub returns : goal.returns
returns c =
    let filed = c.with_argument-filed.ensures _ _ c.file_option-ledger.ensures.rule c.subcommand-begun.ensures in
    let named = c.with_argument-named.ensures _ _ c.name_argument-account.ensures.rule filed in
    let counted = c.with_argument-counted.ensures _ _ c.name_argument-credits.ensures.rule named in
    let referred = c.with_argument-referred.ensures _ _ c.value_option-reference.ensures.rule counted in
    let tried = c.with_argument-tried.ensures _ _ c.flag-trial.ensures.rule referred in
    c.with_argument.ensures _ _ c.verbose_flag.ensures.rule tried
