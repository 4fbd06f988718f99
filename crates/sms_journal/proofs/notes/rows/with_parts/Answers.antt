use Rattle.std.proofs.Common.{arith, rules}
use Rattle.sms_core.specs.Rows.{reserved_of, charged_of, returned_of}
use Rattle.sms_journal.proofs.Adding.{fits_front, over_drop, over_end}
use Rattle.sms_journal.proofs.notes.rows.with_parts.Goals as goal

pub loop-part-preserved : goal.loop-part-preserved
loop-part-preserved c = record {
  reserved = let a = over_drop reserved_of c.args.parts.now c.loop-part.part-index c.part-item.result (omega arith) c.part-item.is in let b = c.loop-part.invariant.reserved in let d = c.in-Some.ensures.reserved in omega (arith, a, b, d);
  charged = let a = over_drop charged_of c.args.parts.now c.loop-part.part-index c.part-item.result (omega arith) c.part-item.is in let b = c.loop-part.invariant.charged in let d = c.in-Some.ensures.charged in omega (arith, a, b, d);
  returned = let a = over_drop returned_of c.args.parts.now c.loop-part.part-index c.part-item.result (omega arith) c.part-item.is in let b = c.loop-part.invariant.returned in let d = c.in-Some.ensures.returned in omega (arith, a, b, d);
}

pub returns-clause-added : goal.returns-clause-added
returns-clause-added c = record {
  reserved = let a = over_end reserved_of c.args.parts.now c.loop-part.part-index (omega arith) in let b = c.loop-part.invariant.reserved in omega (arith, a, b);
  charged = let a = over_end charged_of c.args.parts.now c.loop-part.part-index (omega arith) in let b = c.loop-part.invariant.charged in omega (arith, a, b);
  returned = let a = over_end returned_of c.args.parts.now c.loop-part.part-index (omega arith) in let b = c.loop-part.invariant.returned in omega (arith, a, b);
}

pub returns-in_default-clause-none : goal.returns-in_default-clause-none
returns-in_default-clause-none c = λ none fits.
    c.with_part.ensures.none (search rules)
    (fits_front c.args.parts.now c.loop-part.part-index c.part-item.result c.args.sums c.loop-part.kept (omega arith) c.part-item.is c.loop-part.invariant.reserved c.loop-part.invariant.charged c.loop-part.invariant.returned fits)
