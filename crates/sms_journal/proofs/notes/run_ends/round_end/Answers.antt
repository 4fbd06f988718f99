use Rattle.std.proofs.Common.{◌≡◌, None, rules, arith}
use Rattle.sms_journal.specs.Rounds.{round_in}
use Rattle.sms_journal.proofs.Lists.{got_at}
use Rattle.sms_journal.proofs.Rounds.{between_more}
use Rattle.sms_journal.proofs.notes.run_ends.round_end.Goals as goal

pub loop-place-preserved : goal.loop-place-preserved
loop-place-preserved c =
    let n = c.index-notes-place.result in
    let there = got_at c.args.notes.now c.loop-place.place n (omega arith) c.index-notes-place.is in
    let none : round_in n ≡ None = search rules in
    record { low = omega (arith, c.loop-place.invariant.low); free = between_more c.args.notes.now c.args.from c.loop-place.place n c.loop-place.invariant.low there none c.loop-place.invariant.free }
