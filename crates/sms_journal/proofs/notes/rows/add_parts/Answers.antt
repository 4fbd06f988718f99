use Rattle.std.proofs.Common.{◌≡◌, Some, None, refl, rules}
use Rattle.std.specs.Prelude.{slice_get}
use Rattle.sms_journal.proofs.Adding.{paid_grown, unknown_grown}
use Rattle.sms_journal.proofs.notes.rows.add_parts.Goals as goal

pub returns-in-None-clause-grown : goal.returns-in-None-clause-grown
returns-in-None-clause-grown c = λ i.
    let none : slice_get c.args.sums.now.items c.args.account ≡ None = search rules in
    unknown_grown c.args.sums.now.items c.args.account i c.args.parts.now none

pub returns-in-Some-with_parts-clause-grown : goal.returns-in-Some-with_parts-clause-grown
returns-in-Some-with_parts-clause-grown c = λ i.
    let at : slice_get c.args.sums.now.items c.args.account ≡ Some c.in-Some.old = search rules in
    paid_grown c.args.sums.now.items c.args.account i c.args.parts.now c.in-Some.old c.in-Some-with_parts.new at c.in-Some-with_parts.ensures.added

pub returns-in_default-clause-none : goal.returns-in_default-clause-none
returns-in_default-clause-none c = λ none fits.
    let at : slice_get c.args.sums.now.items c.args.account ≡ Some c.in-Some.old = search rules in
    c.with_parts.ensures.none (search rules) (fits c.args.account c.in-Some.old refl at)
