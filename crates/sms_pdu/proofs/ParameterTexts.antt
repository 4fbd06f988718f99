-- A parameter that is read is the parameter that was spelled, and what was spelled is read again.
use Rattle.std.proofs.Common.{◌≡◌, ℕ, zero, suc, ◌+◌, ◌^◌, ◌<◌, ◌≤◌, false, ltb, List, [], ◌∷◌, ◌++◌, length, get_or, take, drop, Ok, refl, sym, ap, subst, ◌∙◌, append_assoc, arith, inl, inr}
use Rattle.std.specs.Int.{w16, from_be_bytes, to_be_bytes}
use Rattle.std.proofs.lemmas.Bool.{cases_lt, ltb-false, le-ltb}
use Rattle.std.proofs.lemmas.List.{take_at, drop_at, take-append-drop, length-append, length-take, length-drop, get_or-drop, get_or-take, get_or_past, drop-drop}
use Rattle.std.proofs.lemmas.Nat.{be_bytes_2, from_be_bytes-to_be_bytes_2}
use Rattle.sms_pdu.specs.declared.field.Field.TheVariants as fields
use Rattle.sms_pdu.specs.declared.error.PduError.TheVariants as errors
use Rattle.sms_pdu.specs.declared.parameter.Parameter.{Parameter}
use Rattle.sms_pdu.specs.Layout.{parameter_spelling, ParameterFits, parameters_spelling, ParametersFit}
use Rattle.sms_pdu.specs.Reading.{◌>>=◌, valued, parameter_at, parameters_within}
use Rattle.sms_pdu.proofs.Parameters.{bind_ok, guard_ok, guard_then, ok_is}
use Rattle.sms_pdu.proofs.Values.{Takes}

-- each item is an octet
abbrev pub IsOctets : List ℕ → Type 0
IsOctets octets = (i : ℕ) → get_or octets i 0 < 256

pub IsOctets-drop : (n : ℕ) (octets : List ℕ) → IsOctets octets → IsOctets (drop n octets)
IsOctets-drop n octets h i = rw get_or-drop (h (n + i))

pub IsOctets-take : (n : ℕ) (octets : List ℕ) → IsOctets octets → IsOctets (take n octets)
IsOctets-take n octets h i =
    elim (cases_lt i n) [
      | inl lt ↦ rw (get_or-take n octets i 0 lt) (h i)
      | inr le ↦ rw (get_or_past (take n octets) i 0 (omega (arith, length-take n octets))) (omega arith)
    ]

four_parts : (a b v after : List ℕ) → a ++ (b ++ (v ++ after)) ≡ ((a ++ b) ++ v) ++ after
four_parts a b v after = simp append_assoc

number_below : (octets : List ℕ) → IsOctets octets → from_be_bytes w16 octets < 2 ^ 16
number_below octets fits = omega (arith, fits 0, fits 1)

-- a parameter stands at the front, and what follows is octets
record TakesParameter (octets : List ℕ) (x : Parameter × List ℕ) : Type 0 where
  spelled : Takes octets (parameter_spelling x.0) x.1
  fits : ParameterFits x.0
  rest : IsOctets x.1

parameter_takes : (octets : List ℕ) (x : Parameter × List ℕ) → IsOctets octets → parameter_at octets ≡ Ok x → TakesParameter octets x
unfolding parameter_at
parameter_takes octets x fits e =
    let tagged = take 2 octets in
    let sized = take 2 (drop 2 octets) in
    let left = drop 4 octets in
    let tag = from_be_bytes w16 tagged in
    let n = from_be_bytes w16 sized in
    let g = guard_then (ltb (length octets) 4) (errors.Malformed fields.Params) (valued tag n left) x e in
    let long : 4 ≤ length octets = ltb-false _ _ g.0 in
    let p : Parameter = record { tag = tag; value = take n left } in
    let v = guard_ok (ltb (length left) n) (errors.Malformed fields.Params) (p, drop n left) x g.1 in
    let there : n ≤ length left = ltb-false _ _ v.0 in
    let len : length (take n left) ≡ n = omega (arith, length-take n left) in
    let fits-tagged : IsOctets tagged = IsOctets-take 2 octets fits in
    let fits-sized : IsOctets sized = IsOctets-take 2 (drop 2 octets) (IsOctets-drop 2 octets fits) in
    let tag-is : to_be_bytes w16 tag ≡ tagged = be_bytes_2 tagged tag (omega (arith, length-take 2 octets)) fits-tagged refl in
    let size-is : to_be_bytes w16 n ≡ sized = be_bytes_2 sized n (omega (arith, length-take 2 (drop 2 octets), length-drop 2 octets)) fits-sized refl in
    let size-is-len : to_be_bytes w16 (length (take n left)) ≡ sized = ap (λ (k : ℕ). to_be_bytes w16 k) len ∙ size-is in
    let back : take n left ++ drop n left ≡ left = take-append-drop n left in
    let second : sized ++ left ≡ drop 2 octets = ap (λ (r : List ℕ). sized ++ r) (sym (drop-drop 2 2 octets)) ∙ take-append-drop 2 (drop 2 octets) in
    let first : tagged ++ drop 2 octets ≡ octets = take-append-drop 2 octets in
    let cut : octets ≡ tagged ++ (sized ++ (take n left ++ drop n left)) = sym (ap (λ (r : List ℕ). tagged ++ (sized ++ r)) back ∙ ap (λ (r : List ℕ). tagged ++ r) second ∙ first) in
    let spelled : tagged ++ (sized ++ (take n left ++ drop n left)) ≡ to_be_bytes w16 tag ++ (to_be_bytes w16 (length (take n left)) ++ (take n left ++ drop n left)) =
    ap (λ (a : List ℕ). a ++ (sized ++ (take n left ++ drop n left))) (sym tag-is) ∙ ap (λ (b : List ℕ). to_be_bytes w16 tag ++ (b ++ (take n left ++ drop n left))) (sym size-is-len) in
    let parts : octets ≡ parameter_spelling p ++ drop n left = cut ∙ spelled ∙ four_parts (to_be_bytes w16 tag) (to_be_bytes w16 (length (take n left))) (take n left) (drop n left) in
    let good : ParameterFits p = record { tag = number_below tagged fits-tagged; value = omega (arith, len, number_below sized fits-sized) } in
    subst (TakesParameter octets) v.1 record { spelled = parts; fits = good; rest = IsOctets-drop n left (IsOctets-drop 4 octets fits) }

parameter_cells : (a b c d tag : ℕ) (value rest : List ℕ) → from_be_bytes w16 (a ∷ b ∷ []) ≡ tag → from_be_bytes w16 (c ∷ d ∷ []) ≡ length value → parameter_at (a ∷ b ∷ c ∷ d ∷ (value ++ rest)) ≡ Ok (record { tag = tag; value = value }, rest)
unfolding parameter_at
parameter_cells a b c d tag value rest is-tag is-len =
    let long : ltb (length (a ∷ b ∷ c ∷ d ∷ (value ++ rest))) 4 ≡ false = le-ltb _ _ (omega arith) in
    let there : ltb (length (value ++ rest)) (length value) ≡ false = le-ltb _ _ (omega (arith, length-append value rest)) in
    rw (long, is-tag, is-len, there, take_at value rest (length value) refl, drop_at value rest (length value) refl) refl

parameter_again : (p : Parameter) (rest : List ℕ) → ParameterFits p → parameter_at (parameter_spelling p ++ rest) ≡ Ok (p, rest)
parameter_again p rest fits =
    parameter_cells _ _ _ _ p.tag p.value rest (from_be_bytes-to_be_bytes_2 p.tag fits.tag) (from_be_bytes-to_be_bytes_2 (length p.value) fits.value)

pub parameters_take : (n : ℕ) (octets : List ℕ) (ps : List Parameter) → IsOctets octets → parameters_within n octets ≡ Ok ps → (octets ≡ parameters_spelling ps) × ParametersFit ps
unfolding parameters_within
parameters_take zero [] ps fits e = subst (λ (y : List Parameter). ([] ≡ parameters_spelling y) × ParametersFit y) (ok_is [] ps e) (refl, tt)
parameters_take (suc n) [] ps fits e = subst (λ (y : List Parameter). ([] ≡ parameters_spelling y) × ParametersFit y) (ok_is [] ps e) (refl, tt)
parameters_take zero (octet ∷ octets) ps fits e = absurd cc
parameters_take (suc n) (octet ∷ octets) ps fits e =
    let a = bind_ok (parameter_at (octet ∷ octets)) (λ first. parameters_within n first.1 >>= λ others. Ok (first.0 ∷ others)) ps e in
    let b = bind_ok (parameters_within n a.value.1) (λ others. Ok (a.value.0 ∷ others)) ps a.rest in
    let t = parameter_takes (octet ∷ octets) a.value fits a.is in
    let u = parameters_take n a.value.1 b.value t.rest b.is in
    let parts : octet ∷ octets ≡ parameter_spelling a.value.0 ++ parameters_spelling b.value = t.spelled ∙ ap (λ (r : List ℕ). parameter_spelling a.value.0 ++ r) u.0 in
    subst (λ (y : List Parameter). (octet ∷ octets ≡ parameters_spelling y) × ParametersFit y) (ok_is (a.value.0 ∷ b.value) ps b.rest) (parts, (t.fits, u.1))

parameter_more : (n : ℕ) (p : Parameter) (rest : List ℕ) → parameters_within (suc n) (parameter_spelling p ++ rest) ≡ (parameter_at (parameter_spelling p ++ rest) >>= λ first. parameters_within n first.1 >>= λ others. Ok (first.0 ∷ others))
unfolding parameters_within
parameter_more n p rest = refl

pub parameters_again : (n : ℕ) (ps : List Parameter) → length (parameters_spelling ps) ≤ n → ParametersFit ps → parameters_within n (parameters_spelling ps) ≡ Ok ps
unfolding parameters_within
parameters_again zero [] le fits = refl
parameters_again (suc n) [] le fits = refl
parameters_again zero (p ∷ ps) le fits = absurd (omega (arith, length-append (parameter_spelling p) (parameters_spelling ps)))
parameters_again (suc n) (p ∷ ps) le fits =
    let shorter : length (parameters_spelling ps) ≤ n = omega (arith, length-append (parameter_spelling p) (parameters_spelling ps)) in
    parameter_more n p (parameters_spelling ps) ∙ rw (parameter_again p (parameters_spelling ps) fits.0, parameters_again n ps shorter fits.1) refl
