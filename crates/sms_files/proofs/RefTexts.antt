-- The text of a messages file without its references, read again.
use Rattle.std.proofs.Common.{◌≡◌, ◌∙◌, sym, refl, ap, subst, ℕ, zero, suc, ◌+◌, ◌≤◌, Bool, true, false, List, [], ◌∷◌, ◌++◌, length, map, Option, Some, None, append_assoc, arith}
use Rattle.std.specs.Prelude.{◌==◌, ◌||◌, ◌&&◌, nat_le, codes, flat_map, if◌then◌else◌}
use Rattle.std.specs.List.{list_any}
use Rattle.std.proofs.lemmas.Bool.{eqb-true}
use Rattle.std.proofs.lemmas.List.{length-append}
use Rattle.csv.specs.Machine.{next_record}
use Rattle.csv.specs.Reading.{default_config, records, records_from, strip_bom}
use Rattle.csv.specs.Records.{field_at}
use Rattle.csv.specs.Writing.{default_writer, escaped, field_text as csv_field, fields_text, is_blank, needs_byte, read_back, row_body, row_text}
use Rattle.csv.specs.declared.parser.State.TheVariants as st
use Rattle.csv.proofs.RoundTrip.{read-write, rows_text}
use Rattle.sms_files.specs.FieldFlaws.{first_flaw, text_flaw}
use Rattle.sms_files.specs.Fields.{Field, Record, records_of}
use Rattle.sms_files.specs.Messages.{message_flaw, messages_fault, messages_header_flaw, most_messages}
use Rattle.sms_files.specs.Records.{record_fault}
use Rattle.sms_files.specs.Refs.{PlainHasNoFault, PlainIsReadAgain, four_text, front_four, plain_header, plain_line, plain_text, refs_fault, refs_flaw, refs_header_flaw}
use Rattle.sms_files.specs.Report.{field_text, needs_quotes, quoted}
use Rattle.sms_files.specs.declared.flaw.Flaw.{Flaw}

-- ---- a field is written as csv writes it

same-octet : (c : ℕ) → needs_byte default_writer c ≡ (c == 44 || (c == 34 || (c == 10 || c == 13)))
same-octet c = four (c == 44) (c == 34) (c == 13) (c == 10)
  where
    four : (a q r n : Bool) → (a || q || (r || n) || (false && (c == 92)) || false) ≡ (a || (q || (n || r)))
    four true q r n = refl
    four false true r n = refl
    four false false true true = refl
    four false false true false = refl
    four false false false true = refl
    four false false false false = refl

same-need : (x : List ℕ) → list_any (needs_byte default_writer) x ≡ needs_quotes x
same-need [] = refl
same-need (c ∷ cs) = rw (same-octet c, same-need cs) refl

escaped-other : (b : ℕ) (rest : List ℕ) → (b == 34) ≡ false → escaped default_writer (b ∷ rest) ≡ b ∷ escaped default_writer rest
unfolding escaped
escaped-other b rest n = rw n refl

quoted-other : (b : ℕ) (rest : List ℕ) → (b == 34) ≡ false → quoted (b ∷ rest) ≡ b ∷ quoted rest
quoted-other b rest n = rw n refl

escaped-quote : (rest : List ℕ) → escaped default_writer (34 ∷ rest) ≡ 34 ∷ (34 ∷ escaped default_writer rest)
unfolding escaped
escaped-quote rest = refl

same-quoted : (x : List ℕ) → escaped default_writer x ≡ quoted x
unfolding escaped
same-quoted [] = refl
same-quoted (b ∷ rest) = by (b == 34) refl (same-quoted rest)
  where
    by : (e : Bool) → (b == 34) ≡ e → escaped default_writer rest ≡ quoted rest → escaped default_writer (b ∷ rest) ≡ quoted (b ∷ rest)
    by true is more =
        subst (λ (z : ℕ). escaped default_writer (z ∷ rest) ≡ quoted (z ∷ rest)) (sym (eqb-true b 34 is))
        (escaped-quote rest ∙ ap (λ (l : List ℕ). 34 ∷ (34 ∷ l)) more)
    by false is more = escaped-other b rest is ∙ ap (λ (l : List ℕ). b ∷ l) more ∙ sym (quoted-other b rest is)

pub same-field : (x : List ℕ) → csv_field default_writer x ≡ field_text x
same-field x = rw (same-need x, same-quoted x) refl

-- ---- a line is written as csv writes a record

joined : (p q r s : List ℕ) → (p ++ (44 ∷ (q ++ (44 ∷ (r ++ (44 ∷ (s ++ []))))))) ++ (10 ∷ []) ≡ p ++ (44 ∷ (q ++ (44 ∷ (r ++ (44 ∷ (s ++ (10 ∷ [])))))))
joined p q r s =
    append_assoc p (44 ∷ (q ++ (44 ∷ (r ++ (44 ∷ (s ++ [])))))) (10 ∷ [])
    ∙ ap (λ (l : List ℕ). p ++ (44 ∷ l)) (append_assoc q (44 ∷ (r ++ (44 ∷ (s ++ [])))) (10 ∷ [])
    ∙ ap (λ (l : List ℕ). q ++ (44 ∷ l)) (append_assoc r (44 ∷ (s ++ [])) (10 ∷ [])
    ∙ ap (λ (l : List ℕ). r ++ (44 ∷ l)) (append_assoc s [] (10 ∷ []))))

regrouped : (p q r s : List ℕ) → p ++ (44 ∷ (q ++ (44 ∷ (r ++ (44 ∷ (s ++ (10 ∷ []))))))) ≡ p ++ codes "," ++ q ++ codes "," ++ r ++ codes "," ++ s ++ codes "\n"
regrouped p q r s =
    sym (append_assoc p (44 ∷ []) (q ++ (44 ∷ (r ++ (44 ∷ (s ++ (10 ∷ [])))))))
    ∙ sym (append_assoc (p ++ (44 ∷ [])) q (44 ∷ (r ++ (44 ∷ (s ++ (10 ∷ []))))))
    ∙ sym (append_assoc ((p ++ (44 ∷ [])) ++ q) (44 ∷ []) (r ++ (44 ∷ (s ++ (10 ∷ [])))))
    ∙ sym (append_assoc (((p ++ (44 ∷ [])) ++ q) ++ (44 ∷ [])) r (44 ∷ (s ++ (10 ∷ []))))
    ∙ sym (append_assoc ((((p ++ (44 ∷ [])) ++ q) ++ (44 ∷ [])) ++ r) (44 ∷ []) (s ++ (10 ∷ [])))
    ∙ sym (append_assoc (((((p ++ (44 ∷ [])) ++ q) ++ (44 ∷ [])) ++ r) ++ (44 ∷ [])) s (10 ∷ []))

row-of-four : (a b c d : Field)
    → row_text default_writer (a ∷ (b ∷ (c ∷ (d ∷ []))))
    ≡ (csv_field default_writer a ++ (44 ∷ (csv_field default_writer b ++ (44 ∷ (csv_field default_writer c ++ (44 ∷ (csv_field default_writer d ++ []))))))) ++ (10 ∷ [])
unfolding is_blank fields_text
row-of-four a b c d = refl

same-line : (a b c d : Field) → row_text default_writer (a ∷ (b ∷ (c ∷ (d ∷ [])))) ≡ four_text a b c d
same-line a b c d =
    row-of-four a b c d
    ∙ joined (csv_field default_writer a) (csv_field default_writer b) (csv_field default_writer c) (csv_field default_writer d)
    ∙ fields
  where
    fields : csv_field default_writer a ++ (44 ∷ (csv_field default_writer b ++ (44 ∷ (csv_field default_writer c ++ (44 ∷ (csv_field default_writer d ++ (10 ∷ []))))))) ≡ four_text a b c d
    fields = rw (same-field a, same-field b, same-field c, same-field d) (regrouped (field_text a) (field_text b) (field_text c) (field_text d))

line-of : (r : Record) → length r ≡ 5 → plain_line r ≡ row_text default_writer (front_four r)
line-of (a ∷ (b ∷ (c ∷ (d ∷ more)))) h = sym (same-line a b c d)
line-of [] h = absurd (omega (arith, h))
line-of (a ∷ []) h = absurd (omega (arith, h))
line-of (a ∷ (b ∷ [])) h = absurd (omega (arith, h))
line-of (a ∷ (b ∷ (c ∷ []))) h = absurd (omega (arith, h))

back-of : (r : Record) → length r ≡ 5 → read_back (front_four r) ≡ front_four r
back-of (a ∷ (b ∷ (c ∷ (d ∷ more)))) h = refl
back-of [] h = absurd (omega (arith, h))
back-of (a ∷ []) h = absurd (omega (arith, h))
back-of (a ∷ (b ∷ [])) h = absurd (omega (arith, h))
back-of (a ∷ (b ∷ (c ∷ []))) h = absurd (omega (arith, h))

-- ---- records without a flaw

record Good (flaw : Record → Option Flaw) (most before : ℕ) (r : Record) (rs : List Record) : Type 0 where
  low : nat_le before most ≡ true
  good : flaw r ≡ None
  rest : record_fault flaw most (before + 1) rs ≡ None

good-first : (flaw : Record → Option Flaw) (most before : ℕ) (r : Record) (rs : List Record) → record_fault flaw most before (r ∷ rs) ≡ None → Good flaw most before r rs
good-first flaw most before r rs h = by (nat_le before most) (flaw r) refl refl
  where
    by : (b : Bool) (f : Option Flaw) → nat_le before most ≡ b → flaw r ≡ f → Good flaw most before r rs
    by true None e g = record { low = e; good = g; rest = rw (e, g) at h }
    by true (Some is) e g = let bad = rw (e, g) at h in cc
    by false f e g = let bad = rw e at h in cc

five-long : (r : Record) → refs_flaw r ≡ None → length r ≡ 5
five-long r h = by (length r == 5) refl
  where
    by : (b : Bool) → (length r == 5) ≡ b → length r ≡ 5
    by true e = eqb-true (length r) 5 e
    by false e = let bad = rw e at h in cc

-- ---- the file is read again

lines-are : (before : ℕ) (rs : List Record) → record_fault refs_flaw most_messages before rs ≡ None → flat_map plain_line rs ≡ rows_text (map front_four rs)
unfolding rows_text
lines-are before [] h = refl
lines-are before (r ∷ rs) h =
    let g = good-first refs_flaw most_messages before r rs h in
    let here = line-of r (five-long r g.good) in
    let more = lines-are (before + 1) rs g.rest in
    rw (here, more) refl

backs-are : (before : ℕ) (rs : List Record) → record_fault refs_flaw most_messages before rs ≡ None → map read_back (map front_four rs) ≡ map front_four rs
backs-are before [] h = refl
backs-are before (r ∷ rs) h =
    let g = good-first refs_flaw most_messages before r rs h in
    let here = back-of r (five-long r g.good) in
    let more = backs-are (before + 1) rs g.rest in
    rw (here, more) refl

pub header-line : row_text default_writer plain_header ≡ codes "account,source,destination,text\n"
header-line = same-line (codes "account") (codes "source") (codes "destination") (codes "text")

file-is : (rs : List Record) → record_fault refs_flaw most_messages 1 rs ≡ None → plain_text rs ≡ rows_text (plain_header ∷ map front_four rs)
unfolding rows_text
file-is rs h =
    ap (λ (l : List ℕ). codes "account,source,destination,text\n" ++ l) (lines-are 1 rs h) ∙ ap (λ (l : List ℕ). l ++ rows_text (map front_four rs)) (sym header-line)

no-mark : (rs : List Record) → strip_bom (plain_text rs) ≡ plain_text rs
unfolding strip_bom
no-mark rs = refl

all-read : (rows : List Record) (n : ℕ) → length rows ≤ n → records_from default_config n st.StartRecord (rows_text rows) ≡ map read_back rows
unfolding records_from rows_text next_record
all-read [] zero h = refl
all-read [] (suc n) h = refl
all-read (row ∷ rows) zero h = absurd (omega (arith, h))
all-read (row ∷ rows) (suc n) h =
    rw (read-write row (rows_text rows)) (ap (λ (t : List Record). read_back row ∷ t) (all-read rows n (omega (arith, h))))

some-end : (p q : List ℕ) → 1 ≤ length (p ++ (q ++ (10 ∷ [])))
some-end p q =
    let all = length-append p (q ++ (10 ∷ [])) in
    let end = length-append q (10 ∷ []) in
    omega (arith, all, end)

row-ends : (row : Record) → 1 ≤ length (row_text default_writer row)
row-ends row = some-end (row_body default_writer row) (if is_blank default_writer row then 34 ∷ (34 ∷ []) else [])

rows-long : (rows : List Record) → length rows ≤ length (rows_text rows)
unfolding rows_text
rows-long [] = omega arith
rows-long (row ∷ rows) =
    let here = row-ends row in
    let more = rows-long rows in
    let both = length-append (row_text default_writer row) (rows_text rows) in
    omega (arith, here, more, both)

-- rows that were written are read again, where no byte order mark stands before them
pub rows-read : (row : Record) (rows : List Record) → strip_bom (rows_text (row ∷ rows)) ≡ rows_text (row ∷ rows) → records_of (rows_text (row ∷ rows)) ≡ map read_back (row ∷ rows)
rows-read row rows bare =
    let long = rows-long (row ∷ rows) in
    ap (λ (xs : List ℕ). records default_config xs) bare ∙ all-read (row ∷ rows) (length (rows_text (row ∷ rows)) + 1) (omega (arith, long))

file-read : (rs : List Record) → record_fault refs_flaw most_messages 1 rs ≡ None → records_of (plain_text rs) ≡ plain_header ∷ map front_four rs
file-read rs h =
    let rows = plain_header ∷ map front_four rs in
    let long = rows-long rows in
    ap (λ (xs : List ℕ). records default_config xs) (no-mark rs ∙ file-is rs h)
    ∙ all-read rows (length (rows_text rows) + 1) (omega (arith, long))
    ∙ ap (λ (l : List Record). plain_header ∷ l) (backs-are 1 rs h)

rest-good : (r : Record) (rs : List Record) → refs_fault (r ∷ rs) ≡ None → record_fault refs_flaw most_messages 1 rs ≡ None
rest-good r rs h = by (refs_header_flaw r) refl
  where
    by : (f : Option Flaw) → refs_header_flaw r ≡ f → record_fault refs_flaw most_messages 1 rs ≡ None
    by None e = rw e at h
    by (Some is) e = let bad = rw e at h in cc

pub plain-read : PlainIsReadAgain
plain-read [] h = cc
plain-read (r ∷ rs) h = file-read rs (rest-good r rs h)

-- ---- no record of it has a flaw

one-flaw : (a b : Option Flaw) → first_flaw a b ≡ None → a ≡ None
one-flaw None b h = refl
one-flaw (Some is) b h = cc

other-flaw : (a b : Option Flaw) → first_flaw a b ≡ None → b ≡ None
other-flaw None b h = h
other-flaw (Some is) b h = cc

four-good : (r : Record) → refs_flaw r ≡ None → message_flaw (front_four r) ≡ None
unfolding field_at
four-good (a ∷ (b ∷ (c ∷ (d ∷ (e ∷ []))))) h =
    let r = a ∷ (b ∷ (c ∷ (d ∷ (e ∷ [])))) in
    let p = one-flaw (text_flaw r 0) _ h in
    let h1 = other-flaw (text_flaw r 0) _ h in
    let q = one-flaw (text_flaw r 1) _ h1 in
    let h2 = other-flaw (text_flaw r 1) _ h1 in
    let s = one-flaw (text_flaw r 2) _ h2 in
    let h3 = other-flaw (text_flaw r 2) _ h2 in
    let t = one-flaw (text_flaw r 3) _ h3 in
    rw (p, q, s, t) refl
four-good [] h = cc
four-good (a ∷ []) h = cc
four-good (a ∷ (b ∷ [])) h = cc
four-good (a ∷ (b ∷ (c ∷ []))) h = cc
four-good (a ∷ (b ∷ (c ∷ (d ∷ [])))) h = cc
four-good (a ∷ (b ∷ (c ∷ (d ∷ (e ∷ (f ∷ more)))))) h = let five = five-long (a ∷ (b ∷ (c ∷ (d ∷ (e ∷ (f ∷ more)))))) h in absurd (omega (arith, five))

rows-good : (before : ℕ) (rs : List Record) → record_fault refs_flaw most_messages before rs ≡ None → record_fault message_flaw most_messages before (map front_four rs) ≡ None
rows-good before [] h = refl
rows-good before (r ∷ rs) h =
    let g = good-first refs_flaw most_messages before r rs h in
    let here = four-good r g.good in
    let more = rows-good (before + 1) rs g.rest in
    rw (g.low, here) more

pub header-good : messages_header_flaw plain_header ≡ None
unfolding field_at
header-good = refl

file-good : (rs : List Record) → record_fault refs_flaw most_messages 1 rs ≡ None → messages_fault (plain_header ∷ map front_four rs) ≡ None
file-good rs h = rw header-good (rows-good 1 rs h)

pub plain-good : PlainHasNoFault
plain-good [] h = cc
plain-good (r ∷ rs) h =
    let good = rest-good r rs h in
    ap messages_fault (file-read rs good) ∙ file-good rs good
