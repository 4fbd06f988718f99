-- Escapes and surrogates at the end of some units.
use Rattle.std.proofs.Common.{◌≡◌, ℕ, ◌+◌, ◌-◌, ◌<◌, ◌≤◌, Bool, true, false, not, cond, ◌&&◌, eqb, List, length, take, get_or, refl, sym, ◌∙◌, ap, inl, inr, arith}
use Rattle.std.proofs.lemmas.Bool.{cases_Bool, ne_eqb, and_left, and_right, and_parts, ltb-true, lt-leb}
use Rattle.std.proofs.lemmas.List.{take_more}
use Rattle.sms_alphabet.specs.declared.coded.Coding.{Coding}
use Rattle.sms_alphabet.specs.declared.coded.Coding.TheVariants.{Gsm, Ucs2}
use Rattle.sms_segment.specs.Group.{opens, closes}
use Rattle.sms_segment.specs.Front.{is_open}
use Rattle.sms_segment.proofs.Grouping.{is_open-push}

pub and_true : (b : Bool) → (b && true) ≡ b
and_true true = refl
and_true false = refl

-- the units up to `at`, and one before that
is_open-take : (coding : Coding) (units : List ℕ) (before : ℕ) → before < length units → is_open coding (take (before + 1) units) ≡ (not (is_open coding (take before units) && closes coding (get_or units before 0)) && opens coding (get_or units before 0))
is_open-take coding units before inside = ap (is_open coding) (take_more units before 0 inside) ∙ is_open-push coding (take before units) (get_or units before 0)

-- an escape is odd where the units before it are not
escape_turns : (units : List ℕ) (before : ℕ) → before < length units → get_or units before 0 ≡ 27 → is_open Gsm (take (before + 1) units) ≡ not (is_open Gsm (take before units))
escape_turns units before inside escape =
    is_open-take Gsm units before inside
    ∙ ap (λ unit. not (is_open Gsm (take before units) && true) && eqb unit 27) escape
    ∙ and_true (not (is_open Gsm (take before units) && true))
    ∙ ap not (and_true (is_open Gsm (take before units)))

-- and any other code is not
other_is_closed : (units : List ℕ) (before : ℕ) → before < length units → (get_or units before 0 ≡ 27 → ⊥) → is_open Gsm (take (before + 1) units) ≡ false
other_is_closed units before inside other =
    is_open-take Gsm units before inside ∙ and_right _ _ (ne_eqb _ _ other)

turned : (odd here : Bool) → cond odd (not (not here)) (not here) ≡ cond (not odd) (not here) here
turned true true = refl
turned true false = refl
turned false here = refl

stays : (odd : Bool) → cond odd (not false) false ≡ odd
stays true = refl
stays false = refl

pub escape_step : (units : List ℕ) (start : ℕ) (odd : Bool) → 0 < start → start ≤ length units → get_or units (start - 1) 0 ≡ 27 → is_open Gsm units ≡ cond odd (not (is_open Gsm (take start units))) (is_open Gsm (take start units)) → is_open Gsm units ≡ cond (not odd) (not (is_open Gsm (take (start - 1) units))) (is_open Gsm (take (start - 1) units))
escape_step units start odd positive inside escape before =
    let same : start ≡ start - 1 + 1 = omega arith in
    let turns : is_open Gsm (take start units) ≡ not (is_open Gsm (take (start - 1) units)) = ap (λ n. is_open Gsm (take n units)) same ∙ escape_turns units (start - 1) (omega arith) escape in
    before ∙ ap (λ b. cond odd (not b) b) turns ∙ turned odd (is_open Gsm (take (start - 1) units))

pub escape_stop : (units : List ℕ) (start : ℕ) (odd : Bool) → 0 < start → start ≤ length units → (get_or units (start - 1) 0 ≡ 27 → ⊥) → is_open Gsm units ≡ cond odd (not (is_open Gsm (take start units))) (is_open Gsm (take start units)) → odd ≡ is_open Gsm units
escape_stop units start odd positive inside other before =
    let same : start ≡ start - 1 + 1 = omega arith in
    let closed : is_open Gsm (take start units) ≡ false = ap (λ n. is_open Gsm (take n units)) same ∙ other_is_closed units (start - 1) (omega arith) other in
    sym (before ∙ ap (λ b. cond odd (not b) b) closed ∙ stays odd)

pub escape_start : (units : List ℕ) (start : ℕ) (odd : Bool) → start ≤ 0 → is_open Gsm units ≡ cond odd (not (is_open Gsm (take start units))) (is_open Gsm (take start units)) → odd ≡ is_open Gsm units
escape_start units start odd none before =
    let same : start ≡ 0 = omega arith in
    sym (before ∙ ap (λ n. cond odd (not (is_open Gsm (take n units))) (is_open Gsm (take n units))) same ∙ stays odd)

-- a high surrogate is not a low one
high_is_not_low : (unit : ℕ) (here : Bool) → (not (here && closes Ucs2 unit) && opens Ucs2 unit) ≡ opens Ucs2 unit
high_is_not_low unit true =
    elim (cases_Bool (opens Ucs2 unit)) [
      | inl high ↦
          let parts = and_parts _ _ high in
          let below : unit < 0xDC00 = ltb-true _ _ parts.1 in
          let closed : closes Ucs2 unit ≡ false = and_left _ _ (lt-leb _ _ below) in
          rw (closed, high) refl
      | inr not_high ↦ rw not_high (and_right _ _ refl)
    ]
high_is_not_low unit false = refl

pub is_open-surrogate : (units : List ℕ) (at : ℕ) → 0 < at → at ≤ length units → is_open Ucs2 (take at units) ≡ opens Ucs2 (get_or units (at - 1) 0)
is_open-surrogate units at positive inside =
    let same : at ≡ at - 1 + 1 = omega arith in
    ap (λ n. is_open Ucs2 (take n units)) same ∙ is_open-take Ucs2 units (at - 1) (omega arith) ∙ high_is_not_low (get_or units (at - 1) 0) (is_open Ucs2 (take (at - 1) units))
