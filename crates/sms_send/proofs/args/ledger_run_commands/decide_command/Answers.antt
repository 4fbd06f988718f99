use Rattle.sms_send.proofs.args.ledger_run_commands.decide_command.Goals as goal

pub returns : goal.returns
returns c =
    let named = c.with_run-named.ensures _ c.subcommand-begun.ensures in
    let decided = c.with_argument-decided.ensures _ _ c.file_option-decisions.ensures.rule named in
    c.with_argument.ensures _ _ c.verbose_flag.ensures.rule decided
