use Rattle.std.proofs.Common.{◌≡◌, ◌+◌, ◌==◌, if◌then◌else◌, Some, None, subst, sym, take, arith}
use Rattle.sms_journal.specs.DenseMap.{value_at}
use Rattle.sms_journal.specs.Recovered.{or_else}
use Rattle.sms_journal.specs.Seen.{IsPlace}
use Rattle.sms_files.proofs.Lists.{take_whole}
use Rattle.sms_journal.proofs.Admitting.{place_more}
use Rattle.sms_journal.proofs.Lists.{got_at}
use Rattle.sms_journal.proofs.notes.verdict.places_of.Goals as goal

pub loop-place-preserved : goal.loop-place-preserved
loop-place-preserved c = λ i.
    let there = got_at c.args.messages.now c.loop-place.place c.index-messages-place.result (omega arith) c.index-messages-place.is in
    let step : value_at c.put_first.new.self i ≡ or_else (value_at c.loop-place.places i) (if c.index-messages-place.result.index == i then Some c.loop-place.place else None) = c.in_ok-put_first.ensures i in
    subst (IsPlace (take (c.loop-place.place + 1) c.args.messages.now) i) (sym step)
    (place_more c.args.messages.now c.loop-place.place c.index-messages-place.result i (value_at c.loop-place.places i) there (c.loop-place.invariant i))

pub returns : goal.returns
returns c = λ i. subst (λ ms. IsPlace ms i (value_at c.loop-place.places i)) (take_whole c.args.messages.now c.loop-place.place (omega arith)) (c.loop-place.invariant i)
