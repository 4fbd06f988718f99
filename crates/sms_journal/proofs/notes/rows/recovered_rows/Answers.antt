use Rattle.std.proofs.Common.{◌≡◌, ◌∙◌, Some, arith, rules}
use Rattle.std.specs.Prelude.{slice_get}
use Rattle.sms_journal.proofs.Adding.{few_of_covered, row_covers, row_is}
use Rattle.sms_journal.proofs.Journals.{as_long}
use Rattle.sms_journal.proofs.notes.rows.recovered_rows.Goals as goal

pub returns-clause-each : goal.returns-clause-each
returns-clause-each c = λ i row there o at.
    let s = as_long c.args.openings.now c.in_ok-sums.sums.items i o c.in_ok-sums.ensures.length at in
    let its : slice_get c.as_slice.result.now i ≡ Some s.0 = search (s, rules) in
    c.in_ok-rows.ensures.each i row there o at s.0 its ∙ row_is o.credits i c.args.messages.now c.args.ends.now s.0 (c.in_ok-sums.ensures.each i s.0 s.1)

pub returns-clause-covered : goal.returns-clause-covered
returns-clause-covered c = λ i o at.
    let s = as_long c.args.openings.now c.in_ok-sums.sums.items i o c.in_ok-sums.ensures.length at in
    let row = as_long c.args.openings.now c.in_ok-rows.rows.items i o c.in_ok-rows.ensures.length at in
    let its : slice_get c.as_slice.result.now i ≡ Some s.0 = search (s, rules) in
    row_covers o.credits i c.args.messages.now c.args.ends.now row.0
    (c.in_ok-rows.ensures.each i row.0 row.1 o at s.0 its ∙ row_is o.credits i c.args.messages.now c.args.ends.now s.0 (c.in_ok-sums.ensures.each i s.0 s.1))
    (c.in_ok-rows.ensures.balanced i row.0 row.1) (c.in_ok-rows.ensures.small i row.0 row.1)

pub returns-in_err-sums-clause-overdrawn : goal.returns-in_err-sums-clause-overdrawn
returns-in_err-sums-clause-overdrawn c = λ is covered.
    c.in_err-sums.ensures.overdrawn (search rules) (few_of_covered c.args.openings.now c.args.messages.now c.args.ends.now covered)

pub returns-in_err-rows-clause-overdrawn : goal.returns-in_err-rows-clause-overdrawn
returns-in_err-rows-clause-overdrawn c = λ is covered.
    c.in_err-rows.ensures.overdrawn (search rules)
    (λ i o at s at_s.
    let its : slice_get c.in_ok-sums.sums.items i ≡ Some s = search (at_s, rules) in
    let h = c.in_ok-sums.ensures.each i s its in
    let e = (covered i o at).enough in
    let r = h.reserved in
    let k = h.charged in
    omega (arith, e, r, k))
