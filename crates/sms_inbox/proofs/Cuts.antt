-- What is read of a line that was written.
use Rattle.std.proofs.Common.{◌≡◌, ℕ, suc, ◌+◌, ◌/◌, ◌%◌, ◌<◌, ◌≤◌, Bool, true, false, List, [], ◌∷◌, ◌++◌, length, take, drop, Some, refl, ap, ◌∙◌, arith, rules, append_assoc}
use Rattle.std.specs.Prelude.{⊤, option_map, if◌then◌else◌, codes, decimal}
use Rattle.std.proofs.Math.Seq.{take-append_seam, drop-append-add}
use Rattle.std.proofs.lemmas.Bool.{and_parts}
use Rattle.std.proofs.lemmas.Bool.Decides.{nat_tests}
use Rattle.std.proofs.lemmas.Fmt.{decimal_is_IsNumeral, decimal_nonempty, length-decimal-le, digits_decimal}
use Rattle.std.proofs.lemmas.List.Concat.{flat_map-cons}
use Rattle.std.proofs.lemmas.Str.Parse.{tells_all_ascii_digits, numerals_by_value}
use Rattle.std.specs.Char.{is_ascii_digit}
use Rattle.std.specs.Str.{all_ascii_digits}
use Rattle.std.specs.Str.Parse.{digits_value}
use Rattle.sms_core.specs.Decimal.{decimal_in}
use Rattle.sms_inbox.specs.declared.record.Record.{Record}
use Rattle.sms_inbox.specs.declared.fields.Numbers.{Numbers}
use Rattle.sms_inbox.specs.declared.escape.Escape.TheVariants.{Plain}
use Rattle.sms_inbox.specs.Escape.{AreOctets, hex_digit, is_plain, octet_text, octets_in, octets_text}
use Rattle.sms_inbox.specs.Fields.{HeadTexts, SaidTexts, behind_field, behind_head, end_at, field_in, head_in, is_end, numbers_in, record_in, record_with, said_in, u64_in, u8_in}
use Rattle.sms_inbox.specs.Record.{IsRecord, number_field, octets_field, record_text}
use Rattle.sms_inbox.proofs.Escapes.{octets_back}

-- no field ends in this text
abbrev pub HasNoEnd : List ℕ → Type 0
HasNoEnd [] = ⊤
HasNoEnd (c ∷ cs) = (is_end c ≡ false) × HasNoEnd cs

-- ---- fields

end_behind : (f : List ℕ) (c : ℕ) (rest : List ℕ) → HasNoEnd f → is_end c ≡ true → end_at (f ++ c ∷ rest) ≡ length f
end_behind [] c rest h e = ap (λ (b : Bool). if b then 0 else suc (end_at rest)) e
end_behind (x ∷ f) c rest h e = ap (λ (b : Bool). if b then 0 else suc (end_at (f ++ c ∷ rest))) h.0 ∙ ap suc (end_behind f c rest h.1 e)

field_is : (f : List ℕ) (c : ℕ) (rest : List ℕ) → HasNoEnd f → is_end c ≡ true → field_in (f ++ c ∷ rest) ≡ f
unfolding field_in
field_is f c rest h e = ap (λ (n : ℕ). take n (f ++ c ∷ rest)) (end_behind f c rest h e) ∙ take-append_seam f (c ∷ rest)

behind_is : (f : List ℕ) (c : ℕ) (rest : List ℕ) → HasNoEnd f → is_end c ≡ true → behind_field (f ++ c ∷ rest) ≡ rest
unfolding behind_field
behind_is f c rest h e = ap (λ (n : ℕ). drop (n + 1) (f ++ c ∷ rest)) (end_behind f c rest h e) ∙ drop-append-add f (c ∷ rest) 1

-- ---- numbers

abbrev IsU64 : ℕ → Type 0
IsU64 n = n < 18446744073709551616

no_end_digit : (c : ℕ) → is_ascii_digit c ≡ true → is_end c ≡ false
no_end_digit c h = grind (arith, nat_tests)

no_end_digits : (ds : List ℕ) → all_ascii_digits ds ≡ true → HasNoEnd ds
no_end_digits [] h = tt
no_end_digits (d ∷ ds) h = let p = and_parts (is_ascii_digit d) (all_ascii_digits ds) h in (no_end_digit d p.0, no_end_digits ds p.1)

pub digits : (n : ℕ) → IsU64 n → all_ascii_digits (decimal n) ≡ true
digits n low = digits_decimal (numerals_by_value (λ ds. all_ascii_digits ds ≡ true) tells_all_ascii_digits) n low

pub no_end_number : (n : ℕ) → IsU64 n → HasNoEnd (decimal n)
no_end_number n low = no_end_digits (decimal n) (digits n low)

decimal_found : (most n : ℕ) → n ≤ most → IsU64 n → decimal_in most (decimal n) ≡ Some n
decimal_found most n low small =
    let value : digits_value 10 (decimal n) ≡ n = (decimal_is_IsNumeral n small).1 in
    let some : 0 < length (decimal n) = decimal_nonempty n small in
    let few : length (decimal n) ≤ 20 = length-decimal-le 20 n (omega arith) (omega arith) small in
    let are : all_ascii_digits (decimal n) ≡ true = digits n small in
    let fits : digits_value 10 (decimal n) ≤ most = omega arith in
    grind (arith, nat_tests)

u64_found : (n : ℕ) → IsU64 n → u64_in (decimal n) ≡ Some n
unfolding u64_in
u64_found n low = decimal_found 0xFFFF_FFFF_FFFF_FFFF n (omega arith) low

pub u8_low : (n : ℕ) → n < 256 → IsU64 n
u8_low n low = omega (arith, low)

u8_found : (n : ℕ) → n < 256 → u8_in (decimal n) ≡ Some n
unfolding u8_in
u8_found n low = decimal_found 0xFF n (omega (arith, low)) (u8_low n low)

-- ---- octets

no_end_plain : (c : ℕ) → is_plain c ≡ true → is_end c ≡ false
no_end_plain c h = grind (arith, nat_tests)

no_end_hex : (n : ℕ) → n < 16 → is_end (hex_digit n) ≡ false
no_end_hex n low = grind (arith, nat_tests)

no_end_octet : (c : ℕ) (rest : List ℕ) → c < 256 → HasNoEnd rest → HasNoEnd (octet_text c ++ rest)
no_end_octet c rest low h = here (is_plain c) refl
  where
    here : (b : Bool) → is_plain c ≡ b → HasNoEnd ((if b then c ∷ [] else 0x25 ∷ hex_digit (c / 16) ∷ hex_digit (c % 16) ∷ []) ++ rest)
    here true e = (no_end_plain c e, h)
    here false e = (refl, (no_end_hex (c / 16) (omega (arith, low)), (no_end_hex (c % 16) (omega arith), h)))

pub no_end_octets : (cs : List ℕ) → AreOctets cs → HasNoEnd (octets_text cs)
no_end_octets [] h = tt
no_end_octets (c ∷ cs) h = rw flat_map-cons (no_end_octet c (octets_text cs) h.0 (no_end_octets cs h.1))

-- ---- the line of a record

pub comma : is_end 44 ≡ true
comma = refl

feed : is_end 10 ≡ true
feed = refl

-- what stands behind the fifth number or address
unfoldable pub said_rest : Record → List ℕ
said_rest r = octets_text r.id ++ 44 ∷ (octets_text r.state ++ 44 ∷ (octets_text r.error ++ 44 ∷ (octets_text r.text ++ 10 ∷ [])))

-- and behind the word
unfoldable pub head_rest : Record → List ℕ
head_rest r = decimal r.time ++ 44 ∷ (decimal r.bind ++ 44 ∷ (octets_text r.source ++ 44 ∷ (octets_text r.destination ++ 44 ∷ (decimal r.esm_class ++ 44 ∷ said_rest r))))

regroup : (a b c d e f g h i j k : List ℕ) → ((((((a ++ b) ++ c) ++ d) ++ e) ++ f) ++ (((g ++ h) ++ i) ++ j)) ++ k ≡ a ++ (b ++ (c ++ (d ++ (e ++ (f ++ (g ++ (h ++ (i ++ (j ++ k)))))))))
regroup a b c d e f g h i j k = simp append_assoc

pub line_is : (r : Record) → record_text r ≡ codes "received" ++ 44 ∷ head_rest r
unfolding head_rest said_rest
line_is r =
    regroup (codes "received") (number_field r.time) (number_field r.bind) (octets_field r.source) (octets_field r.destination) (number_field r.esm_class) (octets_field r.id) (octets_field r.state) (octets_field r.error)
    (octets_field r.text) (codes "\n")

no_end_word : HasNoEnd (codes "received")
no_end_word = search rules

abbrev texts_of : Record → HeadTexts
texts_of r = record { time = decimal r.time; bind = decimal r.bind; source = octets_text r.source; destination = octets_text r.destination; esm_class = decimal r.esm_class }

abbrev said_of : Record → SaidTexts
said_of r = record { id = octets_text r.id; state = octets_text r.state; error = octets_text r.error; text = octets_text r.text }

record HasHead (line : List ℕ) (r : Record) : Type 0 where
  pub texts : head_in line ≡ texts_of r
  pub rest : behind_head line ≡ said_rest r

head_found : (r : Record) → IsRecord r → HasHead (codes "received" ++ 44 ∷ head_rest r) r
unfolding head_rest
head_found r h =
    let t = decimal r.time in
    let b = decimal r.bind in
    let s = octets_text r.source in
    let d = octets_text r.destination in
    let e = decimal r.esm_class in
    let X5 = e ++ 44 ∷ said_rest r in
    let X4 = d ++ 44 ∷ X5 in
    let X3 = s ++ 44 ∷ X4 in
    let X2 = b ++ 44 ∷ X3 in
    let X1 = t ++ 44 ∷ X2 in
    let b0 : behind_field (codes "received" ++ 44 ∷ X1) ≡ X1 = behind_is (codes "received") 44 X1 no_end_word comma in
    let f1 : field_in X1 ≡ t = field_is t 44 X2 (no_end_number r.time h.time) comma in
    let b1 : behind_field X1 ≡ X2 = behind_is t 44 X2 (no_end_number r.time h.time) comma in
    let f2 : field_in X2 ≡ b = field_is b 44 X3 (no_end_number r.bind (u8_low r.bind h.bind)) comma in
    let b2 : behind_field X2 ≡ X3 = behind_is b 44 X3 (no_end_number r.bind (u8_low r.bind h.bind)) comma in
    let f3 : field_in X3 ≡ s = field_is s 44 X4 (no_end_octets r.source h.source) comma in
    let b3 : behind_field X3 ≡ X4 = behind_is s 44 X4 (no_end_octets r.source h.source) comma in
    let f4 : field_in X4 ≡ d = field_is d 44 X5 (no_end_octets r.destination h.destination) comma in
    let b4 : behind_field X4 ≡ X5 = behind_is d 44 X5 (no_end_octets r.destination h.destination) comma in
    let f5 : field_in X5 ≡ e = field_is e 44 (said_rest r) (no_end_number r.esm_class (u8_low r.esm_class h.esm_class)) comma in
    let b5 : behind_field X5 ≡ said_rest r = behind_is e 44 (said_rest r) (no_end_number r.esm_class (u8_low r.esm_class h.esm_class)) comma in
    record { texts = rw (b0, b1, b2, b3, b4, f1, f2, f3, f4, f5) refl; rest = rw (b0, b1, b2, b3, b4, b5) refl }

said_found : (r : Record) → IsRecord r → said_in (said_rest r) ≡ said_of r
unfolding said_rest
said_found r h =
    let i = octets_text r.id in
    let s = octets_text r.state in
    let e = octets_text r.error in
    let t = octets_text r.text in
    let X3 = t ++ 10 ∷ [] in
    let X2 = e ++ 44 ∷ X3 in
    let X1 = s ++ 44 ∷ X2 in
    let f0 : field_in (i ++ 44 ∷ X1) ≡ i = field_is i 44 X1 (no_end_octets r.id h.id) comma in
    let b0 : behind_field (i ++ 44 ∷ X1) ≡ X1 = behind_is i 44 X1 (no_end_octets r.id h.id) comma in
    let f1 : field_in X1 ≡ s = field_is s 44 X2 (no_end_octets r.state h.state) comma in
    let b1 : behind_field X1 ≡ X2 = behind_is s 44 X2 (no_end_octets r.state h.state) comma in
    let f2 : field_in X2 ≡ e = field_is e 44 X3 (no_end_octets r.error h.error) comma in
    let b2 : behind_field X2 ≡ X3 = behind_is e 44 X3 (no_end_octets r.error h.error) comma in
    let f3 : field_in X3 ≡ t = field_is t 10 [] (no_end_octets r.text h.text) feed in
    rw (b0, b1, b2, f0, f1, f2, f3) refl

numbers_found : (r : Record) → IsRecord r → numbers_in (texts_of r) ≡ Some (record { time = r.time; bind = r.bind; esm_class = r.esm_class })
numbers_found r h =
    let u0 : u64_in (decimal r.time) ≡ Some r.time = u64_found r.time h.time in
    let u1 : u8_in (decimal r.bind) ≡ Some r.bind = u8_found r.bind h.bind in
    let u2 : u8_in (decimal r.esm_class) ≡ Some r.esm_class = u8_found r.esm_class h.esm_class in
    rw (u0, u1, u2) refl

with_found : (r : Record) → IsRecord r → record_with (texts_of r) (said_of r) (record { time = r.time; bind = r.bind; esm_class = r.esm_class }) ≡ r
with_found r h =
    let o0 : octets_in Plain (octets_text r.source) ≡ r.source = octets_back r.source h.source in
    let o1 : octets_in Plain (octets_text r.destination) ≡ r.destination = octets_back r.destination h.destination in
    let o2 : octets_in Plain (octets_text r.id) ≡ r.id = octets_back r.id h.id in
    let o3 : octets_in Plain (octets_text r.state) ≡ r.state = octets_back r.state h.state in
    let o4 : octets_in Plain (octets_text r.error) ≡ r.error = octets_back r.error h.error in
    let o5 : octets_in Plain (octets_text r.text) ≡ r.text = octets_back r.text h.text in
    λ i. record { time = r.time; bind = r.bind; source = o0 i; destination = o1 i; esm_class = r.esm_class; id = o2 i; state = o3 i; error = o4 i; text = o5 i }

all_found : (head : HeadTexts) (said : SaidTexts) (n : Numbers) (r : Record) (line : List ℕ)
    → head_in line ≡ head → said_in (behind_head line) ≡ said → numbers_in head ≡ Some n → record_with head said n ≡ r → record_in line ≡ Some r
all_found head said n r line eh es en er =
    ap (λ (h : HeadTexts). option_map (record_with h (said_in (behind_head line))) (numbers_in h)) eh ∙ ap (λ (s : SaidTexts). option_map (record_with head s) (numbers_in head)) es
    ∙ ap (option_map (record_with head said)) en ∙ ap (λ (x : Record). Some x) er

-- a line that is written of a record is read as the record
pub record_found : (r : Record) → IsRecord r → record_in (record_text r) ≡ Some r
record_found r h =
    let head = head_found r h in
    ap record_in (line_is r)
    ∙ all_found (texts_of r) (said_of r) (record { time = r.time; bind = r.bind; esm_class = r.esm_class }) r (codes "received" ++ 44 ∷ head_rest r) head.texts (ap said_in head.rest ∙ said_found r h) (numbers_found r h) (with_found r h)

-- ---- digits stand for themselves

plain_digit : (c : ℕ) → is_ascii_digit c ≡ true → is_plain c ≡ true
plain_digit c h = grind (arith, nat_tests)

plain_digits : (ds : List ℕ) → all_ascii_digits ds ≡ true → octets_text ds ≡ ds
plain_digits [] h = refl
plain_digits (d ∷ ds) h =
    let p = and_parts (is_ascii_digit d) (all_ascii_digits ds) h in
    flat_map-cons octet_text d ds ∙ ap (λ (b : Bool). (if b then d ∷ [] else 0x25 ∷ hex_digit (d / 16) ∷ hex_digit (d % 16) ∷ []) ++ octets_text ds) (plain_digit d p.0) ∙ ap (λ (l : List ℕ). d ∷ l) (plain_digits ds p.1)

pub number_octets : (n : ℕ) → IsU64 n → octets_text (decimal n) ≡ decimal n
number_octets n low = plain_digits (decimal n) (digits n low)
