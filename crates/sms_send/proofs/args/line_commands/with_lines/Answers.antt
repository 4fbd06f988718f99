use Rattle.sms_send.proofs.args.line_commands.with_lines.Goals as goal

pub returns : goal.returns
returns c = λ line was.
    let kept = c.with_argument-kept.ensures _ _ c.value_option-inbox.ensures.rule was in
    let asked = c.with_argument-asked.ensures _ _ c.value_option-enquire.ensures.rule kept in
    let stayed = c.with_argument-stayed.ensures _ _ c.value_option-stay.ensures.rule asked in
    c.with_argument.ensures _ _ c.ids_option.ensures.rule stayed
