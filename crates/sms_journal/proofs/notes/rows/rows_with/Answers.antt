use Rattle.std.proofs.Common.{◌≡◌, ℕ, ◌∙◌, sym, ap, None, Some, arith, rules}
use Rattle.std.specs.Prelude.{slice_get}
use Rattle.sms_core.specs.declared.row.Row.{Row}
use Rattle.sms_core.specs.Rows.{IsBalanced}
use Rattle.sms_book.specs.declared.opening.Opening.{Opening}
use Rattle.sms_journal.specs.declared.notes.rows.Sums.{Sums}
use Rattle.sms_journal.specs.Sums.{IsSmall, row_with}
use Rattle.sms_journal.proofs.Adding.{got_within}
use Rattle.sms_journal.proofs.Lists.{each_more, got_at}
use Rattle.sms_journal.proofs.notes.rows.rows_with.Goals as goal

pub loop-place-preserved : goal.loop-place-preserved
loop-place-preserved c =
    let opening = c.index-openings-place.result in
    let its = c.in-Some.its in
    let there : slice_get c.args.sums.now c.loop-place.place ≡ Some its = search rules in
    let here = got_at c.args.openings.now c.loop-place.place opening (omega arith) c.index-openings-place.is in
    record {
      length = search rules;
      each = each_more (λ (i : ℕ) (row : Row). (o : Opening) → slice_get c.args.openings.now i ≡ Some o → (s : Sums) → slice_get c.args.sums.now i ≡ Some s → row ≡ row_with o.credits s) c.loop-place.rows.items c.loop-place.place c.in-Some-row_of.row c.push.new.list.items
          c.loop-place.invariant.length c.loop-place.invariant.each
          (λ o at s at_s.
          let some : Some opening ≡ Some o = sym here ∙ at in
          let same : opening ≡ o = cc in
          let some_s : Some its ≡ Some s = sym there ∙ at_s in
          let same_s : its ≡ s = cc in
          c.in-Some-row_of.ensures.row ∙ (λ j. row_with (ap (λ (x : Opening). x.credits) same j) (same_s j)))
          (search rules);
      balanced = each_more (λ (i : ℕ) (row : Row). IsBalanced row) c.loop-place.rows.items c.loop-place.place c.in-Some-row_of.row c.push.new.list.items
          c.loop-place.invariant.length c.loop-place.invariant.balanced c.in-Some-row_of.ensures.balanced (search rules);
      small = each_more (λ (i : ℕ) (row : Row). IsSmall row) c.loop-place.rows.items c.loop-place.place c.in-Some-row_of.row c.push.new.list.items
          c.loop-place.invariant.length c.loop-place.invariant.small c.in-Some-row_of.ensures.small (search rules);
    }

pub returns-in_default-clause-overdrawn : goal.returns-in_default-clause-overdrawn
returns-in_default-clause-overdrawn c = λ is enough.
    let its = got_within c.args.sums.now c.loop-place.place (omega arith) in
    let none : slice_get c.args.sums.now c.loop-place.place ≡ None = search rules in
    let both : None ≡ Some its.0 = sym none ∙ its.1 in
    absurd (cc)

pub returns-in_default-row_of-clause-overdrawn : goal.returns-in_default-row_of-clause-overdrawn
returns-in_default-row_of-clause-overdrawn c = λ is enough.
    let opening = c.index-openings-place.result in
    let there : slice_get c.args.sums.now c.loop-place.place ≡ Some c.in-Some.its = search rules in
    c.row_of.ensures.none (search rules) (enough c.loop-place.place opening (got_at c.args.openings.now c.loop-place.place opening (omega arith) c.index-openings-place.is) c.in-Some.its there)
