-- Ids are of one message where their keys are one.
use Rattle.std.proofs.Common.{◌≡◌, ℕ, ◌+◌, ◌*◌, ◌<◌, ◌≤◌, Bool, true, false, List, [], ◌∷◌, length, drop, get_or, Some, None, refl, sym, ap, ◌∙◌, arith, add-one}
use Rattle.std.specs.Prelude.{◌==◌, ◌&&◌, nat_lt, nat_le, Option, option_map, decimal, if◌then◌else◌}
use Rattle.std.specs.Char.{digit_value}
use Rattle.std.specs.Str.{bytes_eq}
use Rattle.std.specs.Str.Parse.{digits_value, digits_value_after}
use Rattle.std.proofs.Math.ListN.{drop_of_length-le}
use Rattle.std.proofs.Math.Nat.{mul-le-mul_left}
use Rattle.std.proofs.Math.Seq.{drop-cons}
use Rattle.std.proofs.lemmas.Bool.{and_parts, leb-true}
use Rattle.std.proofs.lemmas.Bool.Decides.{nat_tests, Decides-eqb}
use Rattle.std.proofs.lemmas.Fmt.{decimal_injective}
use Rattle.std.proofs.lemmas.Slice.Eq.{bytes_eq-Decides}
use Rattle.sms_inbox.specs.declared.ids.Ids.{Ids}
use Rattle.sms_inbox.specs.declared.ids.Ids.TheVariants.{Same, HexDec, DecHex}
use Rattle.sms_inbox.specs.Delivered.{is_keyed}
use Rattle.sms_inbox.specs.Escape.{AreOctets, octets_text}
use Rattle.sms_inbox.specs.Ids.{answer_key, are_digits, are_same, number_in, number_key, octets_key, receipt_key, same_id}
use Rattle.sms_inbox.proofs.Escapes.{spellings_one}

-- ---- numbers read digit by digit

-- more digits make no smaller number
digits_grow : (radix n : ℕ) (ds : List ℕ) → 1 ≤ radix → n ≤ digits_value_after radix n ds
digits_grow radix n [] h = omega arith
digits_grow radix n (d ∷ ds) h =
    let more : n * radix + digit_value d ≤ digits_value_after radix (n * radix + digit_value d) ds = digits_grow radix (n * radix + digit_value d) ds h in
    let one : n ≤ n * radix = omega (arith, mul-le-mul_left n h) in
    omega (arith, more, one)

-- a number that is too large after one digit more is too large whatever follows
pub too_large : (radix n i : ℕ) (ds : List ℕ) → 1 ≤ radix → digits_value_after radix n (drop i ds) ≡ digits_value radix ds → i < length ds
    → 0xFFFF_FFFF_FFFF_FFFF < n * radix + digit_value (get_or ds i 0) → number_in radix ds ≡ None
too_large radix n i ds h e lt over =
    let cut : drop i ds ≡ get_or ds i 0 ∷ drop (i + 1) ds = rw (add-one, drop-cons ds i 0) refl in
    let value : digits_value_after radix (n * radix + digit_value (get_or ds i 0)) (drop (i + 1) ds) ≡ digits_value radix ds = rw cut at e in
    let grows = digits_grow radix (n * radix + digit_value (get_or ds i 0)) (drop (i + 1) ds) h in
    let big : 0xFFFF_FFFF_FFFF_FFFF < digits_value radix ds = omega (arith, value, grows, over) in
    grind (arith, nat_tests)

lt_true : (m n : ℕ) → m < n → nat_lt m n ≡ true
lt_true m n h = grind (arith, nat_tests)

le_true : (m n : ℕ) → m ≤ n → nat_le m n ≡ true
le_true m n h = grind (arith, nat_tests)

-- what the digits write is found where it isn't too large
pub number_found : (radix n : ℕ) (ds : List ℕ) → 0 < length ds → n ≡ digits_value radix ds → are_digits radix ds ≡ true → n ≤ 0xFFFF_FFFF_FFFF_FFFF → Some n ≡ number_in radix ds
number_found radix n ds some is are low =
    let value = digits_value radix ds in
    let fits : nat_le value 0xFFFF_FFFF_FFFF_FFFF ≡ true = ap (λ (m : ℕ). nat_le m 0xFFFF_FFFF_FFFF_FFFF) (sym is) ∙ le_true n 0xFFFF_FFFF_FFFF_FFFF low in
    ap (λ (m : ℕ). Some m) is
    ∙ sym (ap (λ (b : Bool). if b && (are_digits radix ds && nat_le value 0xFFFF_FFFF_FFFF_FFFF) then Some value else None) (lt_true 0 (length ds) some)
    ∙ ap (λ (b : Bool). if b && nat_le value 0xFFFF_FFFF_FFFF_FFFF then Some value else None) are ∙ ap (λ (b : Bool). if b then Some value else None) fits)

-- and so it is where each digit was read
pub number_read : (radix n i : ℕ) (ds : List ℕ) → length ds ≤ i → digits_value_after radix n (drop i ds) ≡ digits_value radix ds → are_digits radix (drop i ds) ≡ are_digits radix ds → (length ds == 0) ≡ false → n < 18446744073709551616
    → Some n ≡ number_in radix ds
number_read radix n i ds past value are some low =
    let none : drop i ds ≡ [] = drop_of_length-le ds past in
    let more : 0 < length ds = grind (arith, nat_tests) in
    number_found radix n ds more (ap (digits_value_after radix n) (sym none) ∙ value) (sym are ∙ ap (are_digits radix) none) (omega (arith, low))

-- ---- keys

-- both keys are there, and one
abbrev pub meet : Option (List ℕ) → Option (List ℕ) → Bool
meet None other = false
meet (Some key) other = is_keyed key other

two_ways : (a b : Bool) → (a ≡ true → b ≡ true) → (b ≡ true → a ≡ true) → a ≡ b
two_ways true true f g = refl
two_ways true false f g = sym (f refl)
two_ways false true f g = g refl
two_ways false false f g = refl

same_texts : (a b : List ℕ) → AreOctets a → AreOctets b → bytes_eq (octets_text b) (octets_text a) ≡ bytes_eq a b
same_texts a b ha hb =
    let texts = bytes_eq-Decides (octets_text b) (octets_text a) in
    let octets = bytes_eq-Decides a b in
    two_ways (bytes_eq (octets_text b) (octets_text a)) (bytes_eq a b) (λ t. octets.1 (sym (spellings_one b a hb ha (texts.0 t)))) (λ t. texts.1 (ap octets_text (sym (octets.0 t))))

some : (x : ℕ) (a : List ℕ) → (length (x ∷ a) == 0) ≡ false
some x a = let more : 0 < length (x ∷ a) = omega arith in grind (arith, nat_tests)

long : (x : ℕ) (a : List ℕ) → nat_lt 0 (length (x ∷ a)) ≡ true
long x a = let more : 0 < length (x ∷ a) = omega arith in grind (arith, nat_tests)

some_key : (x : ℕ) (a : List ℕ) → octets_key (x ∷ a) ≡ Some (octets_text (x ∷ a))
some_key x a = ap (λ (b : Bool). if b then None else Some (octets_text (x ∷ a))) (some x a)

octets_meet : (a b : List ℕ) → AreOctets a → AreOctets b → meet (octets_key a) (octets_key b) ≡ (nat_lt 0 (length a) && bytes_eq a b)
octets_meet [] b ha hb = refl
octets_meet (x ∷ a) [] ha hb = ap (λ (k : Option (List ℕ)). meet k (octets_key [])) (some_key x a) ∙ sym (ap (λ (b : Bool). b && false) (long x a))
octets_meet (x ∷ a) (y ∷ b) ha hb =
    ap (λ (k : Option (List ℕ)). meet k (octets_key (y ∷ b))) (some_key x a) ∙ ap (is_keyed (octets_text (x ∷ a))) (some_key y b) ∙ same_texts (x ∷ a) (y ∷ b) ha hb
    ∙ sym (ap (λ (c : Bool). c && bytes_eq (x ∷ a) (y ∷ b)) (long x a))

below : (radix n : ℕ) (ds : List ℕ) → number_in radix ds ≡ Some n → n < 18446744073709551616
below radix n ds e = here (nat_lt 0 (length ds) && (are_digits radix ds && nat_le (digits_value radix ds) 0xFFFF_FFFF_FFFF_FFFF)) refl e
  where
    here : (b : Bool) → (nat_lt 0 (length ds) && (are_digits radix ds && nat_le (digits_value radix ds) 0xFFFF_FFFF_FFFF_FFFF)) ≡ b → (if b then Some (digits_value radix ds) else None) ≡ Some n → n < 18446744073709551616
    here true is e =
        let same : digits_value radix ds ≡ n = cc in
        let fits = (and_parts (are_digits radix ds) (nat_le (digits_value radix ds) 0xFFFF_FFFF_FFFF_FFFF) (and_parts (nat_lt 0 (length ds)) (are_digits radix ds && nat_le (digits_value radix ds) 0xFFFF_FFFF_FFFF_FFFF) is).1).1 in
        let low = leb-true (digits_value radix ds) 0xFFFF_FFFF_FFFF_FFFF fits in
        omega (arith, same, low)
    here false is e = absurd (cc)

same_decimals : (m n : ℕ) → m < 18446744073709551616 → n < 18446744073709551616 → bytes_eq (decimal n) (decimal m) ≡ (m == n)
same_decimals m n hm hn =
    let texts = bytes_eq-Decides (decimal n) (decimal m) in
    let numbers = Decides-eqb m n in
    two_ways (bytes_eq (decimal n) (decimal m)) (m == n) (λ t. numbers.1 (sym (decimal_injective n m hn hm (texts.0 t)))) (λ t. texts.1 (ap decimal (sym (numbers.0 t))))

found_meet : (x y : Option ℕ) → ((m : ℕ) → x ≡ Some m → m < 18446744073709551616) → ((n : ℕ) → y ≡ Some n → n < 18446744073709551616) → meet (option_map decimal x) (option_map decimal y) ≡ are_same x y
found_meet None y hx hy = refl
found_meet (Some m) None hx hy = refl
found_meet (Some m) (Some n) hx hy = same_decimals m n (hx m refl) (hy n refl)

numbers_meet : (r s : ℕ) (a b : List ℕ) → meet (number_key r a) (number_key s b) ≡ are_same (number_in r a) (number_in s b)
numbers_meet r s a b = found_meet (number_in r a) (number_in s b) (λ m e. below r m a e) (λ n e. below s n b e)

pub keys_meet : (ids : Ids) (a b : List ℕ) → AreOctets a → AreOctets b → meet (answer_key ids a) (receipt_key ids b) ≡ same_id ids a b
keys_meet Same a b ha hb = octets_meet a b ha hb
keys_meet HexDec a b ha hb = numbers_meet 16 10 a b
keys_meet DecHex a b ha hb = numbers_meet 10 16 a b
