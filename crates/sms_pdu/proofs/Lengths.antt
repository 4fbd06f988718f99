-- The length of parameters, one after the other.
use Rattle.std.proofs.Common.{◌≡◌, ℕ, zero, suc, ◌+◌, ◌<◌, ◌≤◌, List, [], ◌∷◌, length, get_or, take, Ok, Err, refl, ap, add-one, arith}
use Rattle.std.proofs.lemmas.Bool.{lt-leb, le-leb}
use Rattle.std.proofs.lemmas.List.{length-append}
use Rattle.sms_pdu.specs.declared.field.Field.TheVariants as fields
use Rattle.sms_pdu.specs.declared.error.PduError.TheVariants as errors
use Rattle.sms_pdu.specs.declared.parameter.Parameter.{Parameter}
use Rattle.sms_pdu.specs.Layout.{parameters_spelling}
use Rattle.sms_pdu.specs.Size.{whole_size}

abbrev pub sized : List Parameter → ℕ
sized ps = length (parameters_spelling ps)

pub sized-cons : (p : Parameter) (ps : List Parameter) → sized (p ∷ ps) ≡ 4 + length p.value + sized ps
sized-cons p ps = omega (arith, length-append p.value (parameters_spelling ps))

pub sized-take-more : (ps : List Parameter) (i : ℕ) (p : Parameter) → i < length ps → p ≡ get_or ps i p → sized (take (i + 1) ps) ≡ sized (take i ps) + (4 + length p.value)
sized-take-more [] i p lt e = absurd (omega arith)
sized-take-more (q ∷ qs) zero p lt e = omega (arith, sized-cons q [], ap (λ (x : Parameter). length x.value) e)
sized-take-more (q ∷ qs) (suc i) p lt e =
    rw add-one (omega (arith, sized-cons q (take (suc i) qs), sized-cons q (take i qs), rw add-one at (sized-take-more qs i p (omega (arith, lt)) e)))

pub sized-take-le : (ps : List Parameter) (i : ℕ) → sized (take i ps) ≤ sized ps
sized-take-le ps zero = omega arith
sized-take-le [] (suc i) = omega arith
sized-take-le (q ∷ qs) (suc i) = omega (arith, sized-cons q (take i qs), sized-cons q qs, sized-take-le qs i)

pub sized-take-all : (ps : List Parameter) (i : ℕ) → length ps ≤ i → sized (take i ps) ≡ sized ps
sized-take-all [] zero le = refl
sized-take-all [] (suc i) le = refl
sized-take-all (q ∷ qs) zero le = absurd (omega arith)
sized-take-all (q ∷ qs) (suc i) le = omega (arith, sized-cons q (take i qs), sized-cons q qs, sized-take-all qs i (omega (arith, le)))

pub whole_fits : (before : ℕ) (ps : List Parameter) (n : ℕ) → n ≡ before + sized ps → n ≤ 70000 → whole_size before ps ≡ Ok n
unfolding whole_size
whole_fits before ps n e le = rw (← e, le-leb n 70000 le) refl

pub whole_too_long : (before : ℕ) (ps : List Parameter) → 70000 < before + sized ps → whole_size before ps ≡ Err (errors.TooLong fields.Whole)
unfolding whole_size
whole_too_long before ps lt = rw (lt-leb (before + sized ps) 70000 lt) refl
