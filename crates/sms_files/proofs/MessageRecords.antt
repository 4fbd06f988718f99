-- Which records of a messages file are messages, and what they say.
use Rattle.std.proofs.Common.{◌≡◌, refl, Bool, true, false, [], ◌∷◌, length, Option, Some, None, arith}
use Rattle.std.specs.Prelude.{◌==◌, option_and_then, IsUtf8, string_bytes}
use Rattle.std.specs.Str.{is_utf8}
use Rattle.std.proofs.lemmas.Str.{IsUtf8-from_is_utf8, is_utf8-from_IsUtf8}
use Rattle.csv.specs.Records.{field_at}
use Rattle.sms_files.specs.Fields.{Field, Record, as_text, text_in}
use Rattle.sms_files.specs.Messages.{HasText, message_flaw, record_of}
use Rattle.sms_files.specs.declared.flaw.Flaw.TheVariants.{Fields, NotText}
use Rattle.sms_files.specs.declared.tables.messages.MessageFields.{MessageFields}
use Rattle.sms_files.specs.declared.tables.messages.MessageText.{MessageText}

-- a field that is text, and one that isn't
pub some-text : (o : Option Field) (field : Field) → o ≡ Some field → IsUtf8 field → option_and_then as_text o ≡ Some field
some-text o field e u = rw (e, is_utf8-from_IsUtf8 field u) refl

pub no-text : (o : Option Field) (field : Field) → o ≡ Some field → ¬ (IsUtf8 field) → option_and_then as_text o ≡ None
no-text o field e u = by (is_utf8 field) refl
  where
    by : (b : Bool) → is_utf8 field ≡ b → option_and_then as_text o ≡ None
    by true h = absurd (u (IsUtf8-from_is_utf8 field h))
    by false h = rw (e, h) refl

-- text at a place is the field there
pub text-is : (field text : Field) → as_text field ≡ Some text → (is_utf8 field ≡ true) × (text ≡ field)
text-is field text e = by (is_utf8 field) refl
  where
    by : (b : Bool) → is_utf8 field ≡ b → (is_utf8 field ≡ true) × (text ≡ field)
    by true h = let s = rw h at e in (h, cc)
    by false h = let s = rw h at e in cc

-- the flaw of a record of four fields by the first that isn't text
pub first-gap : (r : Record) → length r ≡ 4 → text_in r 0 ≡ None → message_flaw r ≡ Some (NotText 1)
first-gap r four a = rw (four, a) refl

pub second-gap : (r : Record) (w : Field) → length r ≡ 4 → text_in r 0 ≡ Some w → text_in r 1 ≡ None → message_flaw r ≡ Some (NotText 2)
second-gap r w four a b = rw (four, a, b) refl

pub third-gap : (r : Record) (w x : Field) → length r ≡ 4 → text_in r 0 ≡ Some w → text_in r 1 ≡ Some x → text_in r 2 ≡ None → message_flaw r ≡ Some (NotText 3)
third-gap r w x four a b c = rw (four, a, b, c) refl

pub fourth-gap : (r : Record) (w x y : Field) → length r ≡ 4 → text_in r 0 ≡ Some w → text_in r 1 ≡ Some x → text_in r 2 ≡ Some y → text_in r 3 ≡ None → message_flaw r ≡ Some (NotText 4)
fourth-gap r w x y four a b c d = rw (four, a, b, c, d) refl

pub no-gap : (r : Record) (w x y z : Field) → length r ≡ 4 → text_in r 0 ≡ Some w → text_in r 1 ≡ Some x → text_in r 2 ≡ Some y → text_in r 3 ≡ Some z → message_flaw r ≡ None
no-gap r w x y z four a b c d = rw (four, a, b, c, d) refl

pub other-width : (r : Record) → (length r == 4) ≡ false → message_flaw r ≡ Some (Fields (length r))
other-width r e = rw e refl

pub four-texts : (r : Record) (a b c d : Field) → length r ≡ 4 → text_in r 0 ≡ Some a → text_in r 1 ≡ Some b → text_in r 2 ≡ Some c → text_in r 3 ≡ Some d
    → a ∷ (b ∷ (c ∷ (d ∷ []))) ≡ r
unfolding field_at
four-texts (w ∷ (x ∷ (y ∷ (z ∷ [])))) a b c d four ea eb ec ed =
    let p = text-is w a ea in
    let q = text-is x b eb in
    let s = text-is y c ec in
    let t = text-is z d ed in
    rw (p.1, q.1, s.1, t.1) refl
four-texts [] a b c d four ea eb ec ed = absurd (omega arith)
four-texts (w ∷ []) a b c d four ea eb ec ed = absurd (omega arith)
four-texts (w ∷ (x ∷ [])) a b c d four ea eb ec ed = absurd (omega arith)
four-texts (w ∷ (x ∷ (y ∷ []))) a b c d four ea eb ec ed = absurd (omega arith)
four-texts (w ∷ (x ∷ (y ∷ (z ∷ (v ∷ r))))) a b c d four ea eb ec ed = absurd (omega arith)

-- the text of a record is that of its message
pub text-kept : (r : Record) (m : MessageFields) (t : MessageText) → record_of m ≡ r → string_bytes t.text ≡ m.text.now → HasText r t
text-kept r m t e h = rw (← e) h
