use Rattle.std.proofs.Common.{rules, ◌≡◌, ◌+◌, ap, sym, ◌∙◌, subst, true, None, Some, Vec, Global, arith}
use Rattle.std.specs.Prelude.{Option, ◌≢◌}
use Rattle.std.specs.Option.{is_some}
use Rattle.sms_message.specs.declared.ends.MessageEnd.{MessageEnd}
use Rattle.sms_journal.specs.Going.{AreEndsAt, over}
use Rattle.sms_journal.specs.Rounds.{round_in}
use Rattle.sms_journal.proofs.Lists.{got_at}
use Rattle.sms_journal.proofs.RunEnds.{ends_first, ends_next, ends_on}
use Rattle.sms_journal.proofs.notes.run_ends.recover_rounds.Goals.{then-is_some+in_ok-recover, else-is_some}
use Rattle.sms_journal.proofs.notes.run_ends.recover_rounds.Goals as goal

some_not : {X : Type 0} (o : Option X) → is_some o ≡ true → o ≢ None
some_not None e none = absurd (cc)
some_not (Some x) e none = absurd (cc)

pub loop-place-init : goal.loop-place-init
loop-place-init c = ends_first c.args.rules.now c.args.messages.now c.args.notes.now c.round_end-first.result c.in_ok-ends.ends.items c.round_end-first.ensures c.in_ok-ends.ensures

pub loop-place-preserved : goal.loop-place-preserved
loop-place-preserved c =
    let notes = c.args.notes.now in
    let n = c.index-notes-place.result in
    let there = got_at notes c.loop-place.place n (omega arith) c.index-notes-place.is in
    elim c.if-is_some.branch [
      | then-is_some+in_ok-recover w ↦
          let some : is_some (round_in n) ≡ true = ap is_some (sym c.round_in.ensures) ∙ sym c.is_some.ensures ∙ w.if-is_some.true in
          let put : w.put_over.new.ends.items ≡ over c.loop-place.ends.items w.in_ok-recover.field-0.items = w.put_over.ensures in
          let is : c.if-is_some.ends.items ≡ over c.loop-place.ends.items w.in_ok-recover.field-0.items = ap (λ (v : Vec (MessageEnd (Unit {0})) Global). v.items) w.ends-is ∙ put in
          subst (AreEndsAt c.args.rules.now c.args.messages.now notes (c.loop-place.place + 1)) (sym is)
          (ends_next c.args.rules.now c.args.messages.now notes c.loop-place.place w.round_end-end.result n c.loop-place.ends.items w.in_ok-recover.field-0.items there (some_not (round_in n) some) c.loop-place.invariant w.round_end-end.ensures w.in_ok-recover.ensures)
      | else-is_some w ↦
          let none : round_in n ≡ None = search rules in
          let is = ap (λ (v : Vec (MessageEnd (Unit {0})) Global). v.items) w.ends-is in
          subst (AreEndsAt c.args.rules.now c.args.messages.now notes (c.loop-place.place + 1)) (sym is) (ends_on c.args.rules.now c.args.messages.now notes c.loop-place.place n c.loop-place.ends.items there none c.loop-place.invariant)
    ]
