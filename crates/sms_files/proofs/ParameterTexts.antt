-- Parameters that are read from their texts one after the other.
use Rattle.std.proofs.Common.{◌≡◌, ℕ, zero, suc, ◌+◌, ◌<◌, ◌≤◌, List, [], ◌∷◌, ◌++◌, ◌∙◌, length, get_or, drop, Option, Some, None, true, false, refl, sym, ap, subst, arith}
use Rattle.std.proofs.lemmas.Bool.{lt-leb, le-leb}
use Rattle.std.proofs.Math.ListN.{drop_of_length-le}
use Rattle.std.proofs.Math.Seq.{drop-cons}
use Rattle.std.proofs.lemmas.List.{append_assoc, append-nil}
use Rattle.std.specs.Prelude.{option_and_then, option_map, slice_index_or, take}
use Rattle.sms_pdu.specs.declared.parameter.Parameter.{Parameter}
use Rattle.sms_pdu.proofs.Lengths.{sized}
use Rattle.sms_message.specs.Room.{are_few}
use Rattle.sms_files.specs.Parameters.{hex_octet, hex_octets, parameter_of, parameters_of}

-- the octets that were read, and before them those that stood in front
abbrev pub behind : List ℕ → Option (List ℕ) → Option (List ℕ)
behind front rest = option_map (λ octets. front ++ octets) rest

pub at_first : (o : Option (List ℕ)) → o ≡ behind [] o
at_first None = refl
at_first (Some octets) = refl

moved : (front : List ℕ) (octet : ℕ) (rest : Option (List ℕ)) → behind front (option_map (λ octets. octet ∷ octets) rest) ≡ behind (front ++ octet ∷ []) rest
moved front octet None = refl
moved front octet (Some octets) = ap Some (sym (append_assoc front (octet ∷ []) octets))

-- one octet more
pub one_octet : (front : List ℕ) (high low octet : ℕ) (rest : List ℕ) → hex_octet high low ≡ Some octet → behind front (hex_octets (high ∷ (low ∷ rest))) ≡ behind (front ++ octet ∷ []) (hex_octets rest)
one_octet front high low octet rest e = rw e (moved front octet (hex_octets rest))

pub no_octet : (front : List ℕ) (high low : ℕ) (rest : List ℕ) → hex_octet high low ≡ None → behind front (hex_octets (high ∷ (low ∷ rest))) ≡ None
no_octet front high low rest e = rw e refl

-- a pair of digits that stands behind i of them
pair_there : (digits : List ℕ) (i j k : ℕ) → j ≡ i + 1 → k ≡ i + 2 → j < length digits → drop i digits ≡ get_or digits i 0 ∷ (get_or digits j 0 ∷ drop k digits)
pair_there digits i j k e f low =
    let second : suc i ≡ j = omega arith in
    let third : suc j ≡ k = omega arith in
    let here : i < length digits = omega arith in
    drop-cons digits i 0 here
    ∙ ap (λ (n : ℕ). get_or digits i 0 ∷ drop n digits) second
    ∙ ap (λ (l : List ℕ). get_or digits i 0 ∷ l) (drop-cons digits j 0 low ∙ ap (λ (n : ℕ). get_or digits j 0 ∷ drop n digits) third)

pub pair_read : (front digits : List ℕ) (i j k octet : ℕ) → j ≡ i + 1 → k ≡ i + 2 → j < length digits → hex_octet (get_or digits i 0) (get_or digits j 0) ≡ Some octet
    → behind front (hex_octets (drop i digits)) ≡ behind (front ++ octet ∷ []) (hex_octets (drop k digits))
pair_read front digits i j k octet e f low h =
    ap (λ (l : List ℕ). behind front (hex_octets l)) (pair_there digits i j k e f low) ∙ one_octet front (get_or digits i 0) (get_or digits j 0) octet (drop k digits) h

pub pair_unread : (front digits : List ℕ) (i j : ℕ) → j ≡ i + 1 → j < length digits → hex_octet (get_or digits i 0) (get_or digits j 0) ≡ None → behind front (hex_octets (drop i digits)) ≡ None
pair_unread front digits i j e low h =
    ap (λ (l : List ℕ). behind front (hex_octets l)) (pair_there digits i j (i + 2) e refl low) ∙ no_octet front (get_or digits i 0) (get_or digits j 0) (drop (i + 2) digits) h

-- no pair is left: no digit, or one
pub none_left : (front digits : List ℕ) (i : ℕ) → length digits ≡ i → behind front (hex_octets (drop i digits)) ≡ Some front
none_left front digits i e =
    let le : length digits ≤ i = omega arith in
    ap (λ (l : List ℕ). behind front (hex_octets l)) (drop_of_length-le digits le) ∙ ap Some (append-nil front)

pub one_left : (front digits : List ℕ) (i : ℕ) → length digits ≡ i + 1 → behind front (hex_octets (drop i digits)) ≡ None
one_left front digits i e =
    let here : i < length digits = omega arith in
    let le : length digits ≤ suc i = omega arith in
    ap (λ (l : List ℕ). behind front (hex_octets l)) (drop-cons digits i 0 here ∙ ap (λ (l : List ℕ). get_or digits i 0 ∷ l) (drop_of_length-le digits le))

-- ---- the parameters

one_after : (head : Option Parameter) (tail later : Option (List Parameter)) (ps : List Parameter) (p : Parameter)
    → option_and_then (λ q. option_map (λ qs. q ∷ qs) tail) head ≡ Some ps → ((qs : List Parameter) → tail ≡ Some qs → later ≡ Some (qs ++ p ∷ []))
    → option_and_then (λ q. option_map (λ qs. q ∷ qs) later) head ≡ Some (ps ++ p ∷ [])
one_after (Some q) (Some qs) later ps p all rest =
    let e : q ∷ qs ≡ ps = cc in
    rw (rest qs refl) (ap (λ (l : List Parameter). Some (l ++ p ∷ [])) e)
one_after (Some q) None later ps p all rest = cc
one_after None tail later ps p all rest = cc

next_at : (texts : List (List ℕ)) (place next : ℕ) (ps : List Parameter) (p : Parameter) → next ≡ place + 1 → place < length texts → parameters_of (take place texts) ≡ Some ps → parameter_of (slice_index_or texts place []) ≡ Some p
    → parameters_of (take next texts) ≡ Some (ps ++ p ∷ [])
next_at [] place next ps p is low all this = absurd (omega arith)
next_at (t ∷ ts) zero zero ps p is low all this = absurd (omega arith)
next_at (t ∷ ts) zero (suc zero) ps p is low all this =
    let none : [] ≡ ps = cc in
    rw this (ap (λ (l : List Parameter). Some (l ++ p ∷ [])) none)
next_at (t ∷ ts) zero (suc (suc next)) ps p is low all this = absurd (omega arith)
next_at (t ∷ ts) (suc place) zero ps p is low all this = absurd (omega arith)
next_at (t ∷ ts) (suc place) (suc next) ps p is low all this =
    one_after (parameter_of t) (parameters_of (take place ts)) (parameters_of (take next ts)) ps p all (λ qs h. next_at ts place next qs p (omega arith) (omega arith) h this)

-- one text more, which spells a parameter
pub next_text : (texts : List (List ℕ)) (place : ℕ) (ps : List Parameter) (p : Parameter) → place < length texts → parameters_of (take place texts) ≡ Some ps → parameter_of (slice_index_or texts place []) ≡ Some p
    → parameters_of (take (place + 1) texts) ≡ Some (ps ++ p ∷ [])
next_text texts place ps p low all this = next_at texts place (place + 1) ps p refl low all this

taken_all : {A : Type 0} (l : List A) (n : ℕ) → length l ≤ n → take n l ≡ l
taken_all [] zero le = refl
taken_all [] (suc n) le = refl
taken_all (x ∷ xs) zero le = absurd (omega arith)
taken_all {A = A} (x ∷ xs) (suc n) le = ap (λ (t : List A). x ∷ t) (taken_all xs n (omega arith))

-- no text is left
pub all_read : (texts : List (List ℕ)) (n : ℕ) (ps : List Parameter) → length texts ≤ n → parameters_of (take n texts) ≡ Some ps → parameters_of texts ≡ Some ps
all_read texts n ps le all = subst (λ (l : List (List ℕ)). parameters_of l ≡ Some ps) (taken_all texts n le) all

none_after : (o : Option Parameter) → option_and_then (λ p. option_map (λ ps. p ∷ ps) None) o ≡ None
none_after None = refl
none_after (Some p) = refl

-- a text that spells none is enough
pub bad_there : (texts : List (List ℕ)) (place : ℕ) → place < length texts → parameter_of (slice_index_or texts place []) ≡ None → parameters_of texts ≡ None
bad_there [] place low bad = absurd (omega arith)
bad_there (t ∷ ts) zero low bad = rw bad refl
bad_there (t ∷ ts) (suc place) low bad = rw (bad_there ts place (omega arith) bad) (none_after (parameter_of t))

-- parameters of so many octets are few, or not
pub few : (ps : List Parameter) (n : ℕ) → n ≡ sized ps → n ≤ 1024 → are_few ps ≡ true
few ps n e le = rw (← e, le-leb n 1024 le) refl

pub too_many : (ps : List Parameter) → 1024 < sized ps → are_few ps ≡ false
too_many ps lt = rw (lt-leb (sized ps) 1024 lt) refl
