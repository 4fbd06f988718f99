-- What is left of a messages file with references, read again.
use Rattle.std.proofs.Common.{◌≡◌, ◌≢◌, ◌∙◌, sym, refl, ap, ℕ, zero, suc, ◌+◌, ◌≤◌, ◌<◌, ◌-◌, Bool, true, false, List, [], ◌∷◌, ◌++◌, length, map, Option, Some, None, arith}
use Rattle.std.specs.Prelude.{◌==◌, ◌&&◌, nat_le, codes, is_some, if◌then◌else◌}
use Rattle.std.proofs.lemmas.Bool.{eqb-true}
use Rattle.std.proofs.lemmas.Bool.Decides.{nat_tests}
use Rattle.csv.specs.Reading.{strip_bom}
use Rattle.csv.specs.Records.{field_at}
use Rattle.csv.specs.Writing.{default_writer, field_text as csv_field, fields_text, is_blank, read_back, row_text}
use Rattle.csv.proofs.RoundTrip.{rows_text}
use Rattle.sms_files.specs.FieldFlaws.{first_flaw, text_flaw}
use Rattle.sms_files.specs.Fields.{Field, Record, records_of, text_in}
use Rattle.sms_files.specs.Messages.{is_header, message_flaw, messages_fault, messages_header_flaw, most_messages}
use Rattle.sms_files.specs.Records.{Trouble, record_fault, trouble_by}
use Rattle.sms_files.specs.Refs.{is_refs_header, plain_header, refs_fault, refs_flaw}
use Rattle.sms_files.specs.Report.{field_text}
use Rattle.sms_files.specs.declared.flaw.Flaw.{Flaw}
use Rattle.sms_files.proofs.RefTexts.{header-good, header-line, rows-read, same-field}
use Rattle.sms_journal.specs.PlainFiles.{has_ref, heading_of, is_last, line_with, nexts_from, plain_lines, plain_row, plain_rows, row_from, rows_behind, width_of}
use Rattle.sms_journal.specs.PlainLaws.{OpenQuotesAreFaults, PlainFaultsArePlaced, PlainLinesAreRead, place_in}
use Rattle.sms_journal.specs.Rest.{field_or}
use Rattle.sms_journal.specs.declared.plain.Heading.TheVariants.{WithRefs}

-- ---- a line

nexts_are : (r : Record) (place more : ℕ) → fields_text default_writer (row_from r place more) ≡ nexts_from r place more
unfolding fields_text
nexts_are r place zero = refl
nexts_are r place (suc more) = rw (same-field (field_or r place), nexts_are r (place + 1) more) refl

-- two fields or more
record Wide (width : ℕ) : Type 0 where
  more : ℕ
  is : width ≡ suc (suc more)

two_less : (n : ℕ) → 4 < n → n ≡ suc (suc (n - 2))
two_less n long = omega (arith, long)

wide : (quoted : Bool) (r : Record) → Wide (width_of quoted r)
wide quoted r = by (has_ref quoted r) (nat_le (length r) 4) refl refl
  where
    by : (b c : Bool) → has_ref quoted r ≡ b → nat_le (length r) 4 ≡ c → Wide (width_of quoted r)
    by true c e f = record { more = 2; is = rw e refl }
    by false true e f = record { more = 1; is = rw (e, f) refl }
    by false false e f =
        let long : 4 < length r = grind (arith, nat_tests, f) in
        record { more = length r - 2; is = rw (e, f) (two_less (length r) long) }

-- a record of two fields or more has no quotes of its own
row_wide : (x y : Field) (ys : Record) → row_text default_writer (x ∷ (y ∷ ys)) ≡ (csv_field default_writer x ++ fields_text default_writer (y ∷ ys)) ++ (10 ∷ [])
unfolding is_blank
row_wide x y ys = refl

one_off : (more : ℕ) → suc (suc more) - 1 ≡ suc more
one_off more = omega arith

line_is : (width : ℕ) (r : Record) → Wide width → line_with width r ≡ row_text default_writer (row_from r 0 width)
line_is width r w =
    ap (λ (n : ℕ). line_with n r) w.is
    ∙ ap (λ (n : ℕ). (field_text (field_or r 0) ++ nexts_from r 1 n) ++ codes "\n") (one_off w.more)
    ∙ ap (λ (l : List ℕ). (l ++ nexts_from r 1 (suc w.more)) ++ codes "\n") (sym (same-field (field_or r 0)))
    ∙ ap (λ (l : List ℕ). (csv_field default_writer (field_or r 0) ++ l) ++ codes "\n") (sym (nexts_are r 1 (suc w.more)))
    ∙ sym (row_wide (field_or r 0) (field_or r 1) (row_from r 2 w.more))
    ∙ ap (λ (n : ℕ). row_text default_writer (row_from r 0 n)) (sym w.is)

back_is : (width : ℕ) (r : Record) → Wide width → read_back (row_from r 0 width) ≡ row_from r 0 width
back_is width r w = rw w.is refl

-- ---- a file

lines_are : (quoted : Bool) (rs : List Record) → plain_lines quoted rs ≡ rows_text (plain_rows quoted rs)
unfolding rows_text
lines_are quoted [] = refl
lines_are quoted (r ∷ rs) =
    let here = line_is (width_of (quoted && is_last rs) r) r (wide (quoted && is_last rs) r) in
    rw (here, lines_are quoted rs) refl

backs_are : (quoted : Bool) (rs : List Record) → map read_back (plain_rows quoted rs) ≡ plain_rows quoted rs
backs_are quoted [] = refl
backs_are quoted (r ∷ rs) =
    let here = back_is (width_of (quoted && is_last rs) r) r (wide (quoted && is_last rs) r) in
    rw (here, backs_are quoted rs) refl

file_is : (quoted : Bool) (rs : List Record) → codes "account,source,destination,text\n" ++ plain_lines quoted rs ≡ rows_text (plain_header ∷ plain_rows quoted rs)
unfolding rows_text
file_is quoted rs =
    ap (λ (l : List ℕ). codes "account,source,destination,text\n" ++ l) (lines_are quoted rs) ∙ ap (λ (l : List ℕ). l ++ rows_text (plain_rows quoted rs)) (sym header-line)

no_mark : (quoted : Bool) (rs : List Record) → strip_bom (codes "account,source,destination,text\n" ++ plain_lines quoted rs) ≡ codes "account,source,destination,text\n" ++ plain_lines quoted rs
unfolding strip_bom
no_mark quoted rs = refl

pub lines_read : PlainLinesAreRead
lines_read quoted rs =
    let same = file_is quoted rs in
    ap records_of same ∙ rows-read plain_header (plain_rows quoted rs) (ap strip_bom (sym same) ∙ no_mark quoted rs ∙ same)
    ∙ ap (λ (l : List Record). plain_header ∷ l) (backs_are quoted rs)

-- ---- flaws

row_long : (r : Record) (place more : ℕ) → length (row_from r place more) ≡ more
row_long r place zero = refl
row_long r place (suc more) = ap suc (row_long r (place + 1) more)

no_more : (a : Option Flaw) → first_flaw a None ≡ a
no_more None = refl
no_more (Some is) = refl

and_true : (x : Bool) → (x && true) ≡ true → x ≡ true
and_true true h = refl
and_true false h = h

and_left : (x y : Bool) → (x && y) ≡ true → x ≡ true
and_left true y h = refl
and_left false y h = h

five : (r : Record) → has_ref false r ≡ true → length r ≡ 5
five r h = eqb-true (length r) 5 (and_left (length r == 5) (is_some (text_in r 4)) (and_true (length r == 5 && is_some (text_in r 4)) h))

and_false : (x : Bool) → (x && false) ≡ false
and_false true = refl
and_false false = refl

-- a record with a reference, and what is left of it, have the same flaws
with_ref : (r : Record) → has_ref false r ≡ true → message_flaw (plain_row false r) ≡ refs_flaw r
unfolding field_at
with_ref (a ∷ (b ∷ (c ∷ (d ∷ (e ∷ []))))) h =
    let r = a ∷ (b ∷ (c ∷ (d ∷ (e ∷ [])))) in
    let text : is_some (text_in r 4) ≡ true = and_true (is_some (text_in r 4)) h in
    rw (h, text) (ap (λ (f : Option Flaw). first_flaw (text_flaw r 0) (first_flaw (text_flaw r 1) (first_flaw (text_flaw r 2) f))) (sym (no_more (text_flaw r 3))))
with_ref [] h = let long = five [] h in absurd (omega (arith, long))
with_ref (a ∷ []) h = let long = five (a ∷ []) h in absurd (omega (arith, long))
with_ref (a ∷ (b ∷ [])) h = let long = five (a ∷ (b ∷ [])) h in absurd (omega (arith, long))
with_ref (a ∷ (b ∷ (c ∷ []))) h = let long = five (a ∷ (b ∷ (c ∷ []))) h in absurd (omega (arith, long))
with_ref (a ∷ (b ∷ (c ∷ (d ∷ [])))) h = let long = five (a ∷ (b ∷ (c ∷ (d ∷ [])))) h in absurd (omega (arith, long))
with_ref (a ∷ (b ∷ (c ∷ (d ∷ (e ∷ (f ∷ more)))))) h = let long = five (a ∷ (b ∷ (c ∷ (d ∷ (e ∷ (f ∷ more)))))) h in absurd (omega (arith, long))

-- what is left of another is none of a messages file
other_width : (r : Record) → ((if nat_le (length r) 4 then 3 else length r) == 4) ≡ false
other_width r = by (nat_le (length r) 4) refl
  where
    by : (b : Bool) → nat_le (length r) 4 ≡ b → ((if nat_le (length r) 4 then 3 else length r) == 4) ≡ false
    by true e = rw e refl
    by false e = rw e (grind (arith, nat_tests, e))

some_flaw : (row : Record) → (length row == 4) ≡ false → is_some (message_flaw row) ≡ true
some_flaw row e = rw e refl

without_ref : (quoted : Bool) (r : Record) → has_ref quoted r ≡ false → is_some (message_flaw (plain_row quoted r)) ≡ true
without_ref quoted r h =
    let width : width_of quoted r ≡ (if nat_le (length r) 4 then 3 else length r) = rw h refl in
    some_flaw (plain_row quoted r) (ap (λ (n : ℕ). n == 4) (row_long r 0 (width_of quoted r) ∙ width) ∙ other_width r)

some_later : (a b : Option Flaw) → is_some b ≡ true → is_some (first_flaw a b) ≡ true
some_later None b h = h
some_later (Some is) b h = refl

flawed : (r : Record) → has_ref false r ≡ false → is_some (refs_flaw r) ≡ true
flawed r h = by (length r == 5) (is_some (text_in r 4)) refl refl
  where
    by : (b c : Bool) → (length r == 5) ≡ b → is_some (text_in r 4) ≡ c → is_some (refs_flaw r) ≡ true
    by false c e f = rw e refl
    by true true e f = let bad = rw (e, f) at h in cc
    by true false e f =
        let last : is_some (text_flaw r 4) ≡ true = rw f refl in
        rw e (some_later (text_flaw r 0) _ (some_later (text_flaw r 1) _ (some_later (text_flaw r 2) _ (some_later (text_flaw r 3) _ last))))

same_flaws : (r : Record) → is_some (message_flaw (plain_row false r)) ≡ is_some (refs_flaw r)
same_flaws r = by (has_ref false r) refl
  where
    by : (b : Bool) → has_ref false r ≡ b → is_some (message_flaw (plain_row false r)) ≡ is_some (refs_flaw r)
    by true e = ap is_some (with_ref r e)
    by false e = without_ref false r e ∙ sym (flawed r e)

-- ---- places

same_place : (before : ℕ) (f g : Option Flaw) (later other : Option Trouble) → is_some f ≡ is_some g → place_in later ≡ place_in other → place_in (trouble_by before f later) ≡ place_in (trouble_by before g other)
same_place before None None later other e h = h
same_place before (Some f) (Some g) later other e h = refl
same_place before None (Some g) later other e h = cc
same_place before (Some f) None later other e h = cc

places : (before : ℕ) (rs : List Record) → place_in (record_fault message_flaw most_messages before (plain_rows false rs)) ≡ place_in (record_fault refs_flaw most_messages before rs)
places before [] = refl
places before (r ∷ rs) = by (nat_le before most_messages) refl (places (before + 1) rs)
  where
    by : (b : Bool) → nat_le before most_messages ≡ b → place_in (record_fault message_flaw most_messages (before + 1) (plain_rows false rs)) ≡ place_in (record_fault refs_flaw most_messages (before + 1) rs)
        → place_in (record_fault message_flaw most_messages before (plain_rows false (r ∷ rs))) ≡ place_in (record_fault refs_flaw most_messages before (r ∷ rs))
    by true e later = rw e (same_place before (message_flaw (plain_row false r)) (refs_flaw r) _ _ (same_flaws r) later)
    by false e later = rw e refl

refs_heading : (header : Record) (rs : List Record) → heading_of (header ∷ rs) ≡ WithRefs → is_refs_header header ≡ true
refs_heading header rs h = by (is_refs_header header) (is_header header) refl refl
  where
    by : (b c : Bool) → is_refs_header header ≡ b → is_header header ≡ c → is_refs_header header ≡ true
    by true c e f = e
    by false true e f = let bad = rw (e, f) at h in cc
    by false false e f = let bad = rw (e, f) at h in cc

pub faults_placed : PlainFaultsArePlaced
faults_placed [] h = cc
faults_placed (header ∷ rs) h =
    let heads = refs_heading header rs h in
    rw (header-good, heads) (places 1 rs)

-- ---- an open quote

some_trouble : (before : ℕ) (f : Option Flaw) (later : Option Trouble) → is_some later ≡ true → is_some (trouble_by before f later) ≡ true
some_trouble before None later h = h
some_trouble before (Some f) later h = refl

here_trouble : (before : ℕ) (f : Option Flaw) (later : Option Trouble) → is_some f ≡ true → is_some (trouble_by before f later) ≡ true
here_trouble before None later h = cc
here_trouble before (Some f) later h = refl

if_too_many : (before : ℕ) (row : Record) (rows : List Record) → is_some (trouble_by before (message_flaw row) (record_fault message_flaw most_messages (before + 1) rows)) ≡ true
    → is_some (record_fault message_flaw most_messages before (row ∷ rows)) ≡ true
if_too_many before row rows h = by (nat_le before most_messages) refl
  where
    by : (b : Bool) → nat_le before most_messages ≡ b → is_some (record_fault message_flaw most_messages before (row ∷ rows)) ≡ true
    by true e = rw e h
    by false e = rw e refl

faulty : (before : ℕ) (r : Record) (rs : List Record) → is_some (record_fault message_flaw most_messages before (plain_rows true (r ∷ rs))) ≡ true
faulty before r [] =
    if_too_many before (plain_row true r) [] (here_trouble before (message_flaw (plain_row true r)) None (without_ref true r (and_false (length r == 5 && is_some (text_in r 4)))))
faulty before r (s ∷ rs) =
    if_too_many before (plain_row false r) (plain_rows true (s ∷ rs)) (some_trouble before (message_flaw (plain_row false r)) _ (faulty (before + 1) s rs))

pub open_faults : OpenQuotesAreFaults
open_faults [] some = absurd (some refl)
open_faults (r ∷ rs) some = rw header-good (faulty 1 r rs)
