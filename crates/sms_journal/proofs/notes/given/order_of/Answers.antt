use Rattle.std.proofs.Common.{◌≡◌, ◌∙◌, subst, get_or, arith}
use Rattle.std.proofs.lemmas.Option.{slice_get-get_or}
use Rattle.sms_journal.specs.DenseMap.{value_at}
use Rattle.sms_journal.specs.Lawful.{place_of}
use Rattle.sms_files.proofs.Lists.{take_whole}
use Rattle.sms_journal.proofs.Admitting.{order_more}
use Rattle.sms_journal.proofs.notes.given.order_of.Goals as goal

pub loop-place-preserved : goal.loop-place-preserved
loop-place-preserved c = λ i.
    let index = get_or c.args.indexes.now c.loop-place.place 0 in
    let there = slice_get-get_or c.args.indexes.now c.loop-place.place 0 (omega arith) in
    c.in_ok-put_first.ensures i ∙ order_more c.args.indexes.now c.loop-place.place index i (value_at c.loop-place.order i) there (c.loop-place.invariant i)

pub returns : goal.returns
returns c = λ i. subst (λ js. value_at c.loop-place.order i ≡ place_of js i) (take_whole c.args.indexes.now c.loop-place.place (omega arith)) (c.loop-place.invariant i)
