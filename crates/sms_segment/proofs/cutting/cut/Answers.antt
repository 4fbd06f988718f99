use Rattle.std.proofs.Common.{◌≡◌, ◌≤◌, ◌<◌, ℕ, List, true, false, length, refl, sym, ◌∙◌, inl, inr, arith}
use Rattle.sms_alphabet.specs.declared.coded.Coded.{Coded}
use Rattle.sms_segment.specs.declared.part.Part.{Part}
use Rattle.sms_segment.specs.declared.place.Reference.{Reference}
use Rattle.std.proofs.lemmas.Bool.{cases_lt, true≢false}
use Rattle.std.proofs.lemmas.Result.{err_from_is_err_and}
use Rattle.sms_segment.specs.Group.{groups}
use Rattle.sms_segment.specs.Limits.{single_limit, part_limit}
use Rattle.sms_segment.specs.Cutting.{full_cutting}
use Rattle.sms_segment.specs.Message.{parts_of, text_parts, numbered_parts}
use Rattle.sms_segment.proofs.TextLemmas.{parts_of-short, parts_of-count, length-text_parts, fully_cut, length-parts_of, some-parts_of, text_least, short_is_not_too_long, not_too_long, too_long}
use Rattle.sms_segment.proofs.cutting.cut.Goals as goal

pub returns-in_err-whole_text-clause-too_long : goal.returns-in_err-whole_text-clause-too_long
returns-in_err-whole_text-clause-too_long c =
    let short : length c.args.text.now.units ≤ single_limit c.args.text.now.coding = omega (arith, c.len.ensures, c.single_limit.ensures) in
    let (error, is, from_memory) = err_from_is_err_and c.from_residual.result c.from_residual.ensures.1 in
    rw (is, from_memory) (λ e. cc, λ each. absurd (short_is_not_too_long c.args.text.now c.args.reference short each))

pub returns-then-len-single_limit-clause-full : goal.returns-then-len-single_limit-clause-full
returns-then-len-single_limit-clause-full c =
    let short : length c.args.text.now.units ≤ single_limit c.args.text.now.coding = omega (arith, c.len.ensures, c.single_limit.ensures) in
    rw (c.in_ok-whole_text.ensures, ← parts_of-short c.args.text.now c.args.reference short) (fully_cut c.args.text.now c.args.reference)

pub returns-then-len-single_limit-clause-exact : goal.returns-then-len-single_limit-clause-exact
returns-then-len-single_limit-clause-exact c =
    let short : length c.args.text.now.units ≤ single_limit c.args.text.now.coding = omega (arith, c.len.ensures, c.single_limit.ensures) in
    c.in_ok-whole_text.ensures ∙ sym (parts_of-short c.args.text.now c.args.reference short)

pub returns-then-len-single_limit-clause-too_long : goal.returns-then-len-single_limit-clause-too_long
returns-then-len-single_limit-clause-too_long c =
    let short : length c.args.text.now.units ≤ single_limit c.args.text.now.coding = omega (arith, c.len.ensures, c.single_limit.ensures) in
    (λ e. cc, λ each. absurd (short_is_not_too_long c.args.text.now c.args.reference short each))

-- what the two walks give of a long text
sent_long : (text : Coded) (reference : Reference) (limit count : ℕ) (units : List ℕ) (items : List Part) → single_limit text.coding < length text.units → limit ≡ part_limit reference text.coding → units ≡ text.units → count ≡ length (full_cutting limit (groups text.coding units)) → items ≡ numbered_parts text reference count → items ≡ parts_of text reference
sent_long text reference limit count units items long limit_is units_are count_is items_are =
    items_are ∙ parts_of-count text reference count long (sym (rw (limit_is, units_are) at count_is))

-- a count is at most what a header can tell
few : (text : Coded) (reference : Reference) (limit count : ℕ) (units : List ℕ) → single_limit text.coding < length text.units → limit ≡ part_limit reference text.coding → units ≡ text.units → (255 < length (full_cutting limit (groups text.coding units)) → true ≡ false) → length (text_parts text reference) ≤ 255
few text reference limit count units long limit_is units_are none =
    let same : length (text_parts text reference) ≡ length (full_cutting limit (groups text.coding units)) = length-text_parts text reference limit units long limit_is units_are in
    elim (cases_lt 255 (length (full_cutting limit (groups text.coding units)))) [
      | inl many ↦ absurd (true≢false (none many))
      | inr small ↦ omega arith
    ]

pub returns-in_err-numbered_parts-in-Some-clause-too_long : goal.returns-in_err-numbered_parts-in-Some-clause-too_long
returns-in_err-numbered_parts-in-Some-clause-too_long c =
    let long : single_limit c.args.text.now.coding < length c.args.text.now.units = omega (arith, c.len.ensures, c.single_limit.ensures) in
    let small : length (text_parts c.args.text.now c.args.reference) ≤ 255 = few c.args.text.now c.args.reference c.part_limit-limit.result c.in-Some.count c.as_slice.result.now long c.part_limit-limit.ensures c.as_slice.ensures c.in-Some.ensures.none.1 in
    let (error, is, from_memory) = err_from_is_err_and c.from_residual-in_err-numbered_parts-in-Some.result c.from_residual-in_err-numbered_parts-in-Some.ensures.1 in
    rw (is, from_memory) (λ e. cc, λ each. absurd (not_too_long c.args.text.now c.args.reference small each))

pub returns-in-None-clause-too_long : goal.returns-in-None-clause-too_long
returns-in-None-clause-too_long c =
    let long : single_limit c.args.text.now.coding < length c.args.text.now.units = omega (arith, c.len.ensures, c.single_limit.ensures) in
    let same : length (text_parts c.args.text.now c.args.reference) ≡ length (full_cutting c.part_limit-limit.result (groups c.args.text.now.coding c.as_slice.result.now)) = length-text_parts c.args.text.now c.args.reference c.part_limit-limit.result c.as_slice.result.now long c.part_limit-limit.ensures c.as_slice.ensures in
    let many : 255 < length (full_cutting c.part_limit-limit.result (groups c.args.text.now.coding c.as_slice.result.now)) = c.in-None.ensures.none.0 refl in
    (λ e. too_long c.args.text.now c.args.reference (omega arith), λ each. refl)

pub returns-in_ok-numbered_parts-in-Some-clause-full : goal.returns-in_ok-numbered_parts-in-Some-clause-full
returns-in_ok-numbered_parts-in-Some-clause-full c =
    let long : single_limit c.args.text.now.coding < length c.args.text.now.units = omega (arith, c.len.ensures, c.single_limit.ensures) in
    let parts : c.in_ok-numbered_parts-in-Some.field-0.items ≡ parts_of c.args.text.now c.args.reference = sent_long c.args.text.now c.args.reference c.part_limit-limit.result c.in-Some.count c.as_slice.result.now c.in_ok-numbered_parts-in-Some.field-0.items long c.part_limit-limit.ensures c.as_slice.ensures c.in-Some.ensures.count c.in_ok-numbered_parts-in-Some.ensures in
    rw parts (fully_cut c.args.text.now c.args.reference)

pub returns-in_ok-numbered_parts-in-Some-clause-least : goal.returns-in_ok-numbered_parts-in-Some-clause-least
returns-in_ok-numbered_parts-in-Some-clause-least c = λ other cutting.
    let long : single_limit c.args.text.now.coding < length c.args.text.now.units = omega (arith, c.len.ensures, c.single_limit.ensures) in
    let parts : c.in_ok-numbered_parts-in-Some.field-0.items ≡ parts_of c.args.text.now c.args.reference = sent_long c.args.text.now c.args.reference c.part_limit-limit.result c.in-Some.count c.as_slice.result.now c.in_ok-numbered_parts-in-Some.field-0.items long c.part_limit-limit.ensures c.as_slice.ensures c.in-Some.ensures.count c.in_ok-numbered_parts-in-Some.ensures in
    rw (parts, length-parts_of c.args.text.now c.args.reference) (text_least c.args.text.now c.args.reference other cutting)

pub returns-in_ok-numbered_parts-in-Some-clause-some : goal.returns-in_ok-numbered_parts-in-Some-clause-some
returns-in_ok-numbered_parts-in-Some-clause-some c =
    let long : single_limit c.args.text.now.coding < length c.args.text.now.units = omega (arith, c.len.ensures, c.single_limit.ensures) in
    let parts : c.in_ok-numbered_parts-in-Some.field-0.items ≡ parts_of c.args.text.now c.args.reference = sent_long c.args.text.now c.args.reference c.part_limit-limit.result c.in-Some.count c.as_slice.result.now c.in_ok-numbered_parts-in-Some.field-0.items long c.part_limit-limit.ensures c.as_slice.ensures c.in-Some.ensures.count c.in_ok-numbered_parts-in-Some.ensures in
    rw parts (some-parts_of c.args.text.now c.args.reference)

pub returns-in_ok-numbered_parts-in-Some-clause-countable : goal.returns-in_ok-numbered_parts-in-Some-clause-countable
returns-in_ok-numbered_parts-in-Some-clause-countable c =
    let long : single_limit c.args.text.now.coding < length c.args.text.now.units = omega (arith, c.len.ensures, c.single_limit.ensures) in
    let parts : c.in_ok-numbered_parts-in-Some.field-0.items ≡ parts_of c.args.text.now c.args.reference = sent_long c.args.text.now c.args.reference c.part_limit-limit.result c.in-Some.count c.as_slice.result.now c.in_ok-numbered_parts-in-Some.field-0.items long c.part_limit-limit.ensures c.as_slice.ensures c.in-Some.ensures.count c.in_ok-numbered_parts-in-Some.ensures in
    let small : length (text_parts c.args.text.now c.args.reference) ≤ 255 = few c.args.text.now c.args.reference c.part_limit-limit.result c.in-Some.count c.as_slice.result.now long c.part_limit-limit.ensures c.as_slice.ensures c.in-Some.ensures.none.1 in
    rw (parts, length-parts_of c.args.text.now c.args.reference) small

pub returns-in_ok-numbered_parts-in-Some-clause-too_long : goal.returns-in_ok-numbered_parts-in-Some-clause-too_long
returns-in_ok-numbered_parts-in-Some-clause-too_long c =
    let long : single_limit c.args.text.now.coding < length c.args.text.now.units = omega (arith, c.len.ensures, c.single_limit.ensures) in
    let small : length (text_parts c.args.text.now c.args.reference) ≤ 255 = few c.args.text.now c.args.reference c.part_limit-limit.result c.in-Some.count c.as_slice.result.now long c.part_limit-limit.ensures c.as_slice.ensures c.in-Some.ensures.none.1 in
    (λ e. cc, λ each. absurd (not_too_long c.args.text.now c.args.reference small each))

pub returns-in_ok-numbered_parts-in-Some-clause-exact : goal.returns-in_ok-numbered_parts-in-Some-clause-exact
returns-in_ok-numbered_parts-in-Some-clause-exact c =
    let long : single_limit c.args.text.now.coding < length c.args.text.now.units = omega (arith, c.len.ensures, c.single_limit.ensures) in
    sent_long c.args.text.now c.args.reference c.part_limit-limit.result c.in-Some.count c.as_slice.result.now c.in_ok-numbered_parts-in-Some.field-0.items long c.part_limit-limit.ensures c.as_slice.ensures c.in-Some.ensures.count c.in_ok-numbered_parts-in-Some.ensures
