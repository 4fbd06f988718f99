use Rattle.std.proofs.Common.{◌≡◌, ◌∙◌, ◌+◌, ◌<◌, true, false, length, map, inr, refl, sym, arith, rules}
use Rattle.std.proofs.lemmas.Bool.{not-false, not-true}
use Rattle.csv.specs.Records.{fields_of}
use Rattle.sms_book.specs.Openings.{credits_of}
use Rattle.sms_journal.specs.RecordLines.{is_statement_header}
use Rattle.sms_journal.specs.ReportParts.{are_covered, parts_in}
use Rattle.sms_journal.proofs.ToldParts.{before_more, covered_more, front_more, line_uncovered}
use Rattle.sms_journal.proofs.audit.told.parts_of.Goals as goal

pub returns-then-not-branch-clause-refused : goal.returns-then-not-branch-clause-refused
returns-then-not-branch-clause-refused c =
    let x = c.index-lines-place.result in
    let y = c.index-lines-place-in-loop-place.result in
    let xs = c.args.lines.now in
    let k = c.loop-place.place in
    let opened = credits_of c.args.openings.now in
    let plans = c.args.plans.now in
    let low : k < length xs = omega arith in
    let header : is_statement_header (fields_of x) ≡ false = sym c.is_accounts_header.ensures ∙ c.if-is_accounts_header.false in
    let bad : c.in_ok-add_part.field-0 ≡ false = search (rules, not-true) in
    let uncovered : are_covered opened plans (fields_of y) ≡ false = sym c.in_ok-add_part.ensures.covered ∙ bad in
    inr (k + 2, refl, line_uncovered fields_of opened plans xs k x y low c.index-lines-place.is c.index-lines-place-in-loop-place.is header uncovered c.loop-place.invariant.before)

pub loop-place-preserved : goal.loop-place-preserved
loop-place-preserved c =
    let x = c.index-lines-place.result in
    let y = c.index-lines-place-in-loop-place.result in
    let xs = c.args.lines.now in
    let k = c.loop-place.place in
    let opened = credits_of c.args.openings.now in
    let plans = c.args.plans.now in
    let low : k < length xs = omega arith in
    let header : is_statement_header (fields_of x) ≡ false = sym c.is_accounts_header.ensures ∙ c.if-is_accounts_header.false in
    let good : c.in_ok-add_part.field-0 ≡ true = search (rules, not-false) in
    let covered : are_covered opened plans (fields_of y) ≡ true = sym c.in_ok-add_part.ensures.covered ∙ good in
    let grows = c.in_ok-add_part.ensures.added good in
    record {
      front = front_more fields_of opened plans xs k x y low c.index-lines-place.is c.index-lines-place-in-loop-place.is c.loop-place.parts.items c.add_part.new.parts.items (parts_in plans (map fields_of xs)) header c.loop-place.invariant.front grows;
      covered = covered_more fields_of opened plans xs k x y low c.index-lines-place.is c.index-lines-place-in-loop-place.is c.loop-place.parts.items c.add_part.new.parts.items c.loop-place.invariant.covered covered grows;
      before = before_more fields_of opened plans xs k x y low c.index-lines-place.is c.index-lines-place-in-loop-place.is header covered c.loop-place.invariant.before;
    }
