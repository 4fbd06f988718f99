-- The fields of a message's record with its reference.
use Rattle.std.proofs.Common.{◌≡◌, ◌∙◌, sym, refl, ap, ℕ, false, List, [], ◌∷◌, ◌++◌, length, map, Some, None, arith, String, Global}
use Rattle.std.specs.Prelude.{◌==◌, flat_map, string_bytes}
use Rattle.std.specs.List.{AllZip}
use Rattle.std.proofs.lemmas.List.{map-append}
use Rattle.csv.specs.Records.{field_at}
use Rattle.sms_files.specs.Fields.{Field, Record, text_in}
use Rattle.sms_files.specs.Refs.{AreTaken, HasRefFields, plain_line, plain_text, record_of_row, ref_of, refs_flaw, refs_header_flaw}
use Rattle.sms_files.specs.Messages.{most_messages}
use Rattle.sms_files.specs.Rows.{AreRows}
use Rattle.sms_files.specs.declared.flaw.Flaw.TheVariants.{Fields, NotText}
use Rattle.sms_files.specs.declared.refs.RefRow.{RefRow}
use Rattle.sms_files.proofs.MessageRecords.{text-is}

-- the flaw of a record of five fields by the first that isn't text
pub first-ref-gap : (r : Record) → length r ≡ 5 → text_in r 0 ≡ None → refs_flaw r ≡ Some (NotText 1)
first-ref-gap r five a = rw (five, a) refl

pub second-ref-gap : (r : Record) (v : Field) → length r ≡ 5 → text_in r 0 ≡ Some v → text_in r 1 ≡ None → refs_flaw r ≡ Some (NotText 2)
second-ref-gap r v five a b = rw (five, a, b) refl

pub third-ref-gap : (r : Record) (v w : Field) → length r ≡ 5 → text_in r 0 ≡ Some v → text_in r 1 ≡ Some w → text_in r 2 ≡ None → refs_flaw r ≡ Some (NotText 3)
third-ref-gap r v w five a b c = rw (five, a, b, c) refl

pub fourth-ref-gap : (r : Record) (v w x : Field) → length r ≡ 5 → text_in r 0 ≡ Some v → text_in r 1 ≡ Some w → text_in r 2 ≡ Some x → text_in r 3 ≡ None
    → refs_flaw r ≡ Some (NotText 4)
fourth-ref-gap r v w x five a b c d = rw (five, a, b, c, d) refl

pub fifth-ref-gap : (r : Record) (v w x y : Field) → length r ≡ 5 → text_in r 0 ≡ Some v → text_in r 1 ≡ Some w → text_in r 2 ≡ Some x → text_in r 3 ≡ Some y → text_in r 4 ≡ None
    → refs_flaw r ≡ Some (NotText 5)
fifth-ref-gap r v w x y five a b c d e = rw (five, a, b, c, d, e) refl

pub no-ref-gap : (r : Record) (v w x y z : Field) → length r ≡ 5 → text_in r 0 ≡ Some v → text_in r 1 ≡ Some w → text_in r 2 ≡ Some x → text_in r 3 ≡ Some y → text_in r 4 ≡ Some z
    → refs_flaw r ≡ None
no-ref-gap r v w x y z five a b c d e = rw (five, a, b, c, d, e) refl

pub other-ref-width : (r : Record) → (length r == 5) ≡ false → refs_flaw r ≡ Some (Fields (length r))
other-ref-width r e = rw e refl

pub five-texts : (r : Record) (a b c d e : Field) → length r ≡ 5 → text_in r 0 ≡ Some a → text_in r 1 ≡ Some b → text_in r 2 ≡ Some c → text_in r 3 ≡ Some d → text_in r 4 ≡ Some e
    → a ∷ (b ∷ (c ∷ (d ∷ (e ∷ [])))) ≡ r
unfolding field_at
five-texts (v ∷ (w ∷ (x ∷ (y ∷ (z ∷ []))))) a b c d e five ea eb ec ed ee =
    let p = text-is v a ea in
    let q = text-is w b eb in
    let s = text-is x c ec in
    let t = text-is y d ed in
    let u = text-is z e ee in
    rw (p.1, q.1, s.1, t.1, u.1) refl
five-texts [] a b c d e five ea eb ec ed ee = absurd (omega arith)
five-texts (v ∷ []) a b c d e five ea eb ec ed ee = absurd (omega arith)
five-texts (v ∷ (w ∷ [])) a b c d e five ea eb ec ed ee = absurd (omega arith)
five-texts (v ∷ (w ∷ (x ∷ []))) a b c d e five ea eb ec ed ee = absurd (omega arith)
five-texts (v ∷ (w ∷ (x ∷ (y ∷ [])))) a b c d e five ea eb ec ed ee = absurd (omega arith)
five-texts (v ∷ (w ∷ (x ∷ (y ∷ (z ∷ (u ∷ r)))))) a b c d e five ea eb ec ed ee = absurd (omega arith)

-- ---- what is taken of a file, by its rows

rows-are : (rs : List Record) (rows : List RefRow) → AllZip HasRefFields rs rows → map record_of_row rows ≡ rs
rows-are [] [] h = refl
rows-are [] (row ∷ rows) h = absurd h
rows-are (r ∷ rs) [] h = absurd h
rows-are (r ∷ rs) (row ∷ rows) h = rw (h.0, rows-are rs rows h.1) refl

refs-are : (rows : List RefRow) → map (λ row. string_bytes row.reference) rows ≡ map ref_of (map record_of_row rows)
refs-are [] = refl
refs-are (row ∷ rows) = ap (λ (l : List Field). string_bytes row.reference ∷ l) (refs-are rows)

pub taken-are : (rs : List Record) (rows : List RefRow) (plain : List ℕ) (refs : List Field) → AreRows refs_header_flaw refs_flaw HasRefFields most_messages rs rows
    → plain ≡ plain_text (map record_of_row rows) → refs ≡ map (λ (row : RefRow). string_bytes row.reference) rows → AreTaken rs plain refs
taken-are [] rows plain refs h p q = absurd h
taken-are (r ∷ rs) rows plain refs h p q =
    let all = rows-are rs rows h.1 in
    (h.0, p ∙ ap plain_text all, q ∙ refs-are rows ∙ ap (λ (l : List Record). map ref_of l) all)

-- the lines of rows are those of their records
pub lines-of-rows : (rows : List RefRow) → flat_map (λ row. plain_line (record_of_row row)) rows ≡ flat_map plain_line (map record_of_row rows)
lines-of-rows [] = refl
lines-of-rows (row ∷ rows) = ap (λ (l : List ℕ). plain_line (record_of_row row) ++ l) (lines-of-rows rows)

-- one more reference
pub one-more-ref : (refs pushed : List (String Global)) (x : String Global) (rows : List RefRow) (row : RefRow) → map string_bytes refs ≡ map (λ (r : RefRow). string_bytes r.reference) rows
    → pushed ≡ refs ++ x ∷ [] → x ≡ row.reference → map string_bytes pushed ≡ map (λ (r : RefRow). string_bytes r.reference) (rows ++ row ∷ [])
one-more-ref refs pushed x rows row h p e =
    rw (p, e) (map-append string_bytes refs (row.reference ∷ []) ∙ ap (λ (l : List Field). l ++ (string_bytes row.reference ∷ [])) h
    ∙ sym (map-append (λ (r : RefRow). string_bytes r.reference) rows (row ∷ [])))
