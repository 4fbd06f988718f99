use Rattle.std.proofs.Common.{◌<◌, get_or, length, None, arith}
use Rattle.std.proofs.lemmas.List.{get_or_default}
use Rattle.sms_journal.proofs.LineLoops.{attempts_more}
use Rattle.sms_journal.proofs.audit.lines.write_attempts.Goals as goal

pub loop-place-preserved : goal.loop-place-preserved
loop-place-preserved c =
    let xs = c.args.attempts.now in
    let k = c.loop-place.place in
    let low : k < length xs = omega arith in
    attempts_more c.args.name xs k (get_or xs k None) c.args.lines.now c.loop-place.lines c.write_attempt.new.lines _ _ low (get_or_default xs k None (get_or xs k None) low) c.loop-place.invariant c.in_ok-write_attempt.ensures
