use Rattle.sms_send.proofs.args.command_line.with_again.Goals as goal

pub returns : goal.returns
returns c = λ line was.
    let rounds = c.with_argument-rounds.ensures _ _ c.value_option-again.ensures.rule was in
    c.with_argument.ensures _ _ c.value_option-wait.ensures.rule rounds
