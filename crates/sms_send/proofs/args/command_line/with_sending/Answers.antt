use Rattle.sms_send.proofs.args.command_line.with_sending.Goals as goal

pub returns : goal.returns
returns c = λ line was.
    let synced = c.with_argument-synced.ensures _ _ c.flag-sync.ensures.rule was in
    let stricter = c.with_argument-stricter.ensures _ _ c.flag-strict.ensures.rule synced in
    let referred = c.with_argument-referred.ensures _ _ c.refs_flag.ensures.rule stricter in
    let told = c.with_argument-told.ensures _ _ c.verbose_flag.ensures.rule referred in
    let throttled = c.with_throttle-throttled.ensures _ told in
    let rounds = c.with_again-rounds.ensures _ throttled in
    c.with_lines.ensures _ rounds
