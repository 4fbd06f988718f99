use Rattle.std.proofs.Common.{◌∙◌, subst, arith, rules}
use Rattle.std.specs.Prelude.{Option, slice_get}
use Rattle.sms_journal.specs.declared.notes.rows.Sums.{Sums}
use Rattle.sms_journal.specs.Sums.{IsGrown, parts_in}
use Rattle.sms_journal.proofs.Adding.{all_sums, first_sums, fits_ends, sums_more}
use Rattle.sms_journal.proofs.notes.rows.sums_of.Goals as goal

pub loop-place-init : goal.loop-place-init
loop-place-init c = record {
  length = c.in_ok-sums.ensures.length;
  each = λ i s there. first_sums i c.args.messages.now c.args.ends.now s (c.in_ok-sums.ensures.each i s there);
}

pub loop-place-preserved : goal.loop-place-preserved
loop-place-preserved c = record {
  length = c.add_message.ensures.length ∙ c.loop-place.invariant.length;
  each = λ i t there.
      sums_more i c.args.messages.now c.args.ends.now c.loop-place.place c.index-messages-place.result c.index-ends-place.result (slice_get c.loop-place.sums.items i) t
      (omega arith) (omega arith) c.index-messages-place.is c.index-ends-place.is (c.loop-place.invariant.each i)
      (subst (λ (o : Option Sums). IsGrown i c.index-messages-place.result.account (parts_in c.index-ends-place.result.result) (slice_get c.loop-place.sums.items i) o) there (c.in-Some.ensures.grown i));
}

pub returns-clause-each : goal.returns-clause-each
returns-clause-each c = λ i s there. all_sums i c.args.messages.now c.args.ends.now c.loop-place.place s (omega arith) (c.loop-place.invariant.each i s there)

pub returns-in_default-clause-overdrawn : goal.returns-in_default-clause-overdrawn
returns-in_default-clause-overdrawn c = λ is few.
    c.add_message.ensures.none (search rules)
    (fits_ends c.args.accounts c.args.messages.now c.args.ends.now c.loop-place.place c.index-messages-place.result c.index-ends-place.result c.loop-place.sums.items c.loop-place.invariant.length
    (omega arith) (omega arith) c.index-messages-place.is c.index-ends-place.is c.loop-place.invariant.each few)
