use Rattle.sms_send.proofs.args.ledger_run_commands.with_ledger.Goals as goal

pub returns : goal.returns
returns c = λ line was. c.with_argument.ensures _ _ c.value_option-ledger.ensures.rule was
