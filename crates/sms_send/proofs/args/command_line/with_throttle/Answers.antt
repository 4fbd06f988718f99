use Rattle.sms_send.proofs.args.command_line.with_throttle.Goals as goal

pub returns : goal.returns
returns c = λ line was.
    let connected = c.with_argument-connected.ensures _ _ c.value_option-connect.ensures.rule was in
    let rated = c.with_argument-rated.ensures _ _ c.value_option-rate.ensures.rule connected in
    c.with_argument.ensures _ _ c.value_option-stop.ensures.rule rated
