-- What is written is the spelling.
use Rattle.std.proofs.Common.{◌≡◌, ℕ, zero, suc, ◌+◌, ◌^◌, ◌<◌, ◌≤◌, true, List, [], ◌∷◌, ◌++◌, length, get_or, take, Result, Ok, refl, sym, ap, subst, ◌∙◌, append_assoc, add-one, arith}
use Rattle.std.proofs.lemmas.Bool.{ltb-true}
use Rattle.std.proofs.lemmas.List.{append-nil}
use Rattle.sms_pdu.specs.declared.error.PduError.{PduError}
use Rattle.sms_pdu.specs.declared.parameter.Parameter.{Parameter}
use Rattle.sms_pdu.specs.declared.body.Pdu.{Pdu}
use Rattle.sms_pdu.specs.Layout.{parameter_spelling, parameters_spelling, ParameterFits, ParametersFit}
use Rattle.sms_pdu.specs.Grammar.{body_spelling, spelling_of, Spells}
use Rattle.sms_pdu.specs.Size.{parameters_fit, size_of}
use Rattle.sms_pdu.specs.Writing.{Adds, TagsFit}
use Rattle.sms_pdu.proofs.Bodies.{both_true}
use Rattle.sms_pdu.proofs.SizeLaws.{body_sized, body_size_is}

-- ---- parameters, one after the other

pub spelling-take-more : (ps : List Parameter) (i : ℕ) (p : Parameter) → i < length ps → p ≡ get_or ps i p → parameters_spelling (take (i + 1) ps) ≡ parameters_spelling (take i ps) ++ parameter_spelling p
spelling-take-more [] i p lt e = absurd (omega arith)
spelling-take-more (q ∷ qs) zero p lt e = append-nil (parameter_spelling q) ∙ ap parameter_spelling (sym e)
spelling-take-more (q ∷ qs) (suc i) p lt e =
    rw add-one (ap (λ (x : List ℕ). parameter_spelling q ++ x) (rw add-one at (spelling-take-more qs i p (omega (arith, lt)) e)) ∙ sym (append_assoc (parameter_spelling q) (parameters_spelling (take i qs)) (parameter_spelling p)))

pub fit-take-more : (ps : List Parameter) (i : ℕ) (p : Parameter) → i < length ps → p ≡ get_or ps i p → ParametersFit (take i ps) → ParameterFits p → ParametersFit (take (i + 1) ps)
fit-take-more [] i p lt e so_far fits = absurd (omega arith)
fit-take-more (q ∷ qs) zero p lt e so_far fits = (subst ParameterFits e fits, tt)
fit-take-more (q ∷ qs) (suc i) p lt e so_far fits = rw add-one (so_far.0, rw add-one at (fit-take-more qs i p (omega (arith, lt)) e so_far.1 fits))

pub take-all : (ps : List Parameter) (i : ℕ) → length ps ≤ i → take i ps ≡ ps
take-all [] zero le = refl
take-all [] (suc i) le = refl
take-all (q ∷ qs) zero le = absurd (omega arith)
take-all (q ∷ qs) (suc i) le = ap (λ (x : List Parameter). q ∷ x) (take-all qs i (omega (arith, le)))

pub value_fits_at : (ps : List Parameter) (i : ℕ) (p : Parameter) → parameters_fit ps ≡ true → i < length ps → p ≡ get_or ps i p → length p.value < 2 ^ 16
value_fits_at [] i p fit lt e = absurd (omega arith)
value_fits_at (q ∷ qs) zero p fit lt e = subst (λ (x : Parameter). length x.value < 2 ^ 16) (sym e) (ltb-true _ _ (both_true _ _ fit).0)
value_fits_at (q ∷ qs) (suc i) p fit lt e = value_fits_at qs i p (both_true _ _ fit).1 (omega (arith, lt)) e

pub length-spelling_of : (n : ℕ) (p : Pdu) → length (spelling_of n p) ≡ 16 + length (body_spelling p.body)
length-spelling_of n p = omega arith

abbrev sized_as : ℕ → Result ℕ PduError
sized_as n = Ok n

-- ---- the whole

pub encoded : (p : Pdu) (n : ℕ) → size_of p ≡ Ok n → TagsFit p.body → p.status < 2 ^ 32 → p.number < 2 ^ 32 → Spells p (spelling_of n p)
encoded p n e tags status number =
    let s = body_sized p.status p.body n e in
    let len : n ≡ length (spelling_of n p) = omega (arith, s.len, length-spelling_of n p) in
    record {
      spelled = ap (λ (k : ℕ). spelling_of k p) len;
      most = omega (arith, len, s.most);
      status = status;
      number = number;
      fits = s.fits tags;
    }

pub sized_again : (p : Pdu) (octets : List ℕ) → Spells p octets → size_of p ≡ Ok (length octets)
sized_again p octets s =
    let len : length octets ≡ 16 + length (body_spelling p.body) = ap length s.spelled ∙ length-spelling_of (length octets) p in
    body_size_is p.status p.body s.fits (omega (arith, len, s.most)) ∙ ap (λ (k : ℕ). sized_as k) (sym len)

pub one_text : (p : Pdu) (octets others : List ℕ) → Spells p octets → Spells p others → octets ≡ others
one_text p octets others s t =
    let len : length octets ≡ length others = ap length s.spelled ∙ length-spelling_of (length octets) p ∙ sym (length-spelling_of (length others) p) ∙ sym (ap length t.spelled) in
    s.spelled ∙ ap (λ (k : ℕ). spelling_of k p) len ∙ sym t.spelled

abbrev text_as : List ℕ → Result (List ℕ) PduError
text_as octets = Ok octets

pub same_text : (p : Pdu) (octets others : List ℕ) → Spells p octets → Spells p others → text_as octets ≡ text_as others
same_text p octets others s t = ap (λ (x : List ℕ). text_as x) (one_text p octets others s t)

-- what was added to nothing is the whole
pub added_to_none : (p q : Pdu) (none new : List ℕ) → p ≡ q → none ≡ [] → Adds p none new → Spells q new
added_to_none p q none new same empty added =
    let is : new ≡ added.octets = added.behind ∙ ap (λ (x : List ℕ). x ++ added.octets) empty in
    subst (λ (x : Pdu). Spells x new) same (subst (λ (x : List ℕ). Spells p x) (sym is) added.spelled)

-- ---- runs

pub and_put : {next new done : List ℕ} (more : List ℕ) → next ≡ new ++ more → new ≡ done → next ≡ done ++ more
and_put more put before = put ∙ ap (λ (x : List ℕ). x ++ more) before

-- the strings of a message, and the octets between them
pub sm_runs : (out type source dest schedule validity text params : List ℕ) (a b c d e f g h i j k n : ℕ)
    → (((((((((((out ++ type) ++ 0 ∷ a ∷ b ∷ []) ++ source) ++ 0 ∷ c ∷ d ∷ []) ++ dest) ++ 0 ∷ e ∷ f ∷ g ∷ []) ++ schedule) ++ 0 ∷ []) ++ validity) ++ 0 ∷ h ∷ i ∷ j ∷ k ∷ n ∷ []) ++ text) ++ params
    ≡ out ++ (((type ++ 0 ∷ []) ++ a ∷ b ∷ ((source ++ 0 ∷ []) ++ c ∷ d ∷ ((dest ++ 0 ∷ []) ++ e ∷ f ∷ g ∷ ((schedule ++ 0 ∷ []) ++ ((validity ++ 0 ∷ []) ++ h ∷ i ∷ j ∷ k ∷ n ∷ (text ++ [])))))) ++ params)
sm_runs out type source dest schedule validity text params a b c d e f g h i j k n = simp append_assoc
