-- Numbers read digit by digit.
use Rattle.std.proofs.Common.{◌≡◌, ℕ, ◌+◌, ◌*◌, ◌<◌, ◌≤◌, List, [], ◌∷◌, length, drop, get_or, arith, refl, None, add-one}
use Rattle.std.proofs.lemmas.Bool.Decides.{nat_tests}
use Rattle.std.specs.Str.Parse.{digits_value, digits_value_after}
use Rattle.std.specs.Char.{digit_value}
use Rattle.std.proofs.Math.Seq.{drop-cons}
use Rattle.sms_core.specs.Decimal.{decimal_in}

-- more digits make no smaller number
pub digits-grow : (n : ℕ) (ds : List ℕ) → n ≤ digits_value_after 10 n ds
digits-grow n [] = omega arith
digits-grow n (d ∷ ds) =
    let more : n * 10 + digit_value d ≤ digits_value_after 10 (n * 10 + digit_value d) ds = digits-grow (n * 10 + digit_value d) ds in
    omega arith

-- a number that is too large after one digit more is too large whatever follows
pub too-large : (most n i : ℕ) (text : List ℕ) → digits_value_after 10 n (drop i text) ≡ digits_value 10 text → i < length text
    → most < n * 10 + digit_value (get_or text i 0) → decimal_in most text ≡ None
too-large most n i text e lt over =
    let cut : drop i text ≡ get_or text i 0 ∷ drop (i + 1) text = rw (add-one, drop-cons text i 0) refl in
    let value : digits_value_after 10 (n * 10 + digit_value (get_or text i 0)) (drop (i + 1) text) ≡ digits_value 10 text = rw cut at e in
    let grows = digits-grow (n * 10 + digit_value (get_or text i 0)) (drop (i + 1) text) in
    let big : most < digits_value 10 text = omega arith in
    grind (arith, nat_tests)
