-- How many characters the line on the way has.
use Rattle.std.proofs.Common.{◌≡◌, ℕ, ◌+◌, ◌-◌, ◌*◌, ◌/◌, ◌<◌, ◌≤◌, ◌==◌, Bool, List, ◌++◌, length, Option, Some, None, if◌then◌else◌, codes, decimal, ap, ◌∙◌, arith, ⊎_elim, eq-eqb, ne_eqb, length-append}
use Rattle.std.proofs.lemmas.Bool.{cases_lt}
use Rattle.sms_files.specs.Laws.{LineFitsARow, counted_in, year}
use Rattle.sms_files.specs.Summary.{capped}
use Rattle.sms_files.specs.Tally.{ended_in, left_of, pace_of, rate_of, way_text}
use Rattle.sms_files.specs.declared.report.tally.Tally.{Tally}
use Rattle.sms_files.specs.declared.report.tally.WayLine.{WayLine}
use Rattle.sms_files.proofs.Digits.{all_digits, digits, digits_1, digits_6, digits_of_counts, few_counts, paced}

-- ---- the words round the numbers

length_of_line : (e all c r u pace : List ℕ)
    → length (e ++ codes "/" ++ all ++ codes " " ++ (codes "charged " ++ c ++ codes " refused " ++ r ++ codes " unanswered " ++ u) ++ codes ", " ++ pace)
    ≡ 33 + (length e + length c + length r + length u) + length all + length pace
length_of_line e all c r u pace = simp length-append (omega arith)

length_of_rate : (rate : ℕ) → length (pace_of rate None) ≡ digits rate + 2
length_of_rate rate = simp length-append (omega arith)

length_of_pace : (rate left : ℕ) → length (pace_of rate (Some left)) ≡ digits rate + digits left + 11
length_of_pace rate left = simp length-append (omega arith)

counts_in : Tally → ℕ
counts_in tally = digits_of_counts (ended_in tally) tally.charged tally.refused tally.unanswered

length_at : (line : WayLine) (rate : ℕ) (left : Option ℕ) → rate_of line ≡ rate → left_of line ≡ left
    → length (way_text line) ≡ 33 + counts_in line.tally + digits line.all + length (pace_of rate left)
unfolding counts_in
length_at line rate left quick soon =
    length_of_line (decimal (ended_in line.tally)) (decimal line.all) (decimal line.tally.charged) (decimal line.tally.refused) (decimal line.tally.unanswered) (pace_of (rate_of line) (left_of line))
    ∙ (λ i. 33 + counts_in line.tally + digits line.all + length (pace_of (quick i) (soon i)))

-- ---- the numbers

rate_at : (ms x : ℕ) → 0 < ms → (if ms == 0 then 0 else x / ms) ≡ x / ms
rate_at ms x begun = ap (λ (b : Bool). if b then 0 else (x / ms)) (ne_eqb ms 0 (λ z. omega arith))

left_at_first : (e left : ℕ) → e ≡ 0 → (if e == 0 then None else (Some left)) ≡ None
left_at_first e left none = ap (λ (b : Bool). if b then None else (Some left)) (eq-eqb e 0 none)

left_at : (e left : ℕ) → 0 < e → (if e == 0 then None else (Some left)) ≡ Some left
left_at e left some = ap (λ (b : Bool). if b then None else (Some left)) (ne_eqb e 0 (λ z. omega arith))

capped_le : (n : ℕ) → capped n ≤ n
capped_le n = omega arith

no_rate : (e x ms : ℕ) → e ≡ 0 → x ≤ e * 1_000 → x / ms < 10
no_rate e x ms none few = omega arith

counts_are : (tally : Tally) → counted_in tally ≤ 100_000 → ended_in tally ≡ counted_in tally
counts_are tally few = omega arith

few_in : (tally : Tally) → counted_in tally ≤ 100_000 → ended_in tally ≡ 0 → counts_in tally ≤ 4
unfolding counts_in
few_in tally few none = few_counts (ended_in tally) tally.charged tally.refused tally.unanswered (counts_are tally few) (omega arith)

-- the digits of a line where some have ended, with their rate and the seconds that are left
digits_in : (tally : Tally) (all ms x y : ℕ) → counted_in tally ≤ 100_000 → 0 < ended_in tally → all ≤ 100_000 → 10 < ms → ms ≤ year
    → x ≤ ended_in tally * 1_000 → y ≤ (all - ended_in tally) * ms → counts_in tally + (digits (x / ms) + digits (y / ended_in tally / 1_000)) ≤ 29
unfolding counts_in
digits_in tally all ms x y counted some few begun short quick soon =
    let sum : ended_in tally ≡ counted_in tally = counts_are tally counted in
    all_digits (ended_in tally) tally.charged tally.refused tally.unanswered all ms (x / ms) (y / ended_in tally / 1_000) sum some (omega arith) few begun short
    (paced (ended_in tally) ms (all - ended_in tally) x y quick soon)

-- ---- the line

first_line_sum : (n counts all rate pace : ℕ) → n ≡ 33 + counts + digits all + pace → pace ≡ digits rate + 2 → counts ≤ 4 → all ≤ 100_000 → rate < 10 → n < 80
first_line_sum n counts all rate pace sum is few low slow = omega (arith, digits_6 all (omega arith), digits_1 rate slow)

line_sum : (n counts all rate left pace : ℕ) → n ≡ 33 + counts + digits all + pace → pace ≡ digits rate + digits left + 11 → counts + (digits rate + digits left) ≤ 29 → all ≤ 100_000 → n < 80
line_sum n counts all rate left pace sum is few low = omega (arith, digits_6 all (omega arith))

fits_at_first : (line : WayLine) → counted_in line.tally ≤ 100_000 → ended_in line.tally ≡ 0 → line.all ≤ 100_000 → 0 < line.ms → length (way_text line) < 80
fits_at_first line counted none few begun =
    let e : ℕ = ended_in line.tally in
    let x : ℕ = capped (e * 1_000) in
    let y : ℕ = capped ((line.all - e) * line.ms) in
    first_line_sum (length (way_text line)) (counts_in line.tally) line.all (x / line.ms) (length (pace_of (x / line.ms) None))
    (length_at line (x / line.ms) None (rate_at line.ms x begun) (left_at_first e (y / e / 1_000) none))
    (length_of_rate (x / line.ms)) (few_in line.tally counted none) few (no_rate e x line.ms none (capped_le (e * 1_000)))

fits_then : (line : WayLine) → counted_in line.tally ≤ 100_000 → 0 < ended_in line.tally → line.all ≤ 100_000 → 10 < line.ms → line.ms ≤ year → length (way_text line) < 80
fits_then line counted some few begun short =
    let e : ℕ = ended_in line.tally in
    let x : ℕ = capped (e * 1_000) in
    let y : ℕ = capped ((line.all - e) * line.ms) in
    line_sum (length (way_text line)) (counts_in line.tally) line.all (x / line.ms) (y / e / 1_000) (length (pace_of (x / line.ms) (Some (y / e / 1_000))))
    (length_at line (x / line.ms) (Some (y / e / 1_000)) (rate_at line.ms x (omega arith)) (left_at e (y / e / 1_000) some))
    (length_of_pace (x / line.ms) (y / e / 1_000))
    (digits_in line.tally line.all line.ms x y counted some few begun short (capped_le (e * 1_000)) (capped_le ((line.all - e) * line.ms))) few

pub line_fits : LineFitsARow
line_fits line counted few begun short =
    ⊎_elim
    (λ (none : ended_in line.tally < 1). fits_at_first line counted (omega arith) few (omega arith))
    (λ (some : 1 ≤ ended_in line.tally). fits_then line counted some few begun short)
    (cases_lt (ended_in line.tally) 1)
