use Rattle.std.proofs.Common.{rules, ◌≡◌, ℕ, ◌+◌, List, Some, length, get_or, refl, sym, subst, take, arith}
use Rattle.std.proofs.lemmas.Option.{slice_get-get_or}
use Rattle.std.specs.Prelude.{IsSome, slice_get}
use Rattle.sms_journal.specs.DenseMap.{value_at}
use Rattle.sms_files.proofs.Lists.{take_whole}
use Rattle.sms_journal.proofs.Lists.{each_more, take_snoc}
use Rattle.sms_journal.proofs.notes.ending.all_started.Goals as goal

pub loop-place-preserved : goal.loop-place-preserved
loop-place-preserved c =
    let given = c.args.given.now in
    let index = get_or given c.loop-place.place 0 in
    let there = slice_get-get_or given c.loop-place.place 0 (omega arith) in
    let here : IsSome (value_at c.args.starts.now index) = search rules in
    each_more (λ (k i : ℕ). IsSome (value_at c.args.starts.now i)) (take c.loop-place.place given) (length (take c.loop-place.place given)) index (take (c.loop-place.place + 1) given) refl c.loop-place.invariant here
    (take_snoc given c.loop-place.place index there)

pub returns-then-not-has : goal.returns-then-not-has
returns-then-not-has c = λ notes has. (
  (λ yes. absurd (cc)),
  (λ all.
      let index = get_or c.args.given.now c.loop-place.place 0 in
      let there = slice_get-get_or c.args.given.now c.loop-place.place 0 (omega arith) in
      let some : IsSome (value_at c.args.starts.now index) = subst IsSome (sym (has index)) (all c.loop-place.place index there) in
      search (some, rules)),
)

pub returns : goal.returns
returns c = λ notes has. (
  (λ yes k i at.
      let whole = take_whole c.args.given.now c.loop-place.place (omega arith) in
      subst IsSome (has i) (c.loop-place.invariant k i (subst (λ (l : List ℕ). slice_get l k ≡ Some i) (sym whole) at))),
  (λ all. search rules),
)
