-- Texts that are read one after another.
use Rattle.std.proofs.Common.{◌≡◌, ℕ, ◌+◌, ◌<◌, List, [], ◌∷◌, ◌++◌, length, map, take, get_or, Option, Some, Result, Err, zero, suc, refl, sym, ap, ◌∙◌, arith}
use Rattle.sms_centre.specs.declared.script.ScriptError.{ScriptError}
use Rattle.sms_centre.specs.declared.script.ScriptError.TheVariants.{BadKey, BadAnswer}
use Rattle.std.proofs.lemmas.List.{map_push, take_more}
use Rattle.sms_centre.specs.declared.treatment.Treatment.{Treatment}
use Rattle.sms_centre.specs.Texts.{treatment_of, SayAll}

-- one text more
pub say_more : (texts : List (List ℕ)) (ts : List Treatment) (i : ℕ) (t : Treatment) → i < length texts → SayAll (take i texts) ts → Some t ≡ treatment_of (get_or texts i []) → SayAll (take (i + 1) texts) (ts ++ t ∷ [])
say_more texts ts i t low before says =
    ap (map treatment_of) (take_more texts i [] low)
    ∙ map_push treatment_of (take i texts) (get_or texts i [])
    ∙ ap (λ (l : List (Option Treatment)). l ++ treatment_of (get_or texts i []) ∷ []) before
    ∙ ap (λ (o : Option Treatment). map Some ts ++ o ∷ []) (sym says)
    ∙ sym (map_push Some ts t)

pub err_inside : {A E : Type 0} {x y : E} → ◌≡◌ {A = Result A E} (Err x) (Err y) → x ≡ y
err_inside e = cc

pub texts_long : {X : Type 0} (f : X → List ℕ) (xs : List X) (i : ℕ) → i < length xs → i < length (map f xs)
texts_long f [] i low = absurd (omega arith)
texts_long f (x ∷ xs) zero low = omega arith
texts_long f (x ∷ xs) (suc i) low = let h = texts_long f xs i (omega arith) in omega (arith, h)

pub map_none : {X : Type 0} (f : X → List ℕ) (xs : List X) → map f xs ≡ [] → xs ≡ []
map_none f [] e = refl
map_none f (x ∷ xs) e = absurd cc

-- a bad key is no bad answer
pub key_or_answer : {A : Type 0} {r : Result A ScriptError} {place : ℕ} → r ≡ Err BadKey → r ≡ Err (BadAnswer place) → ⊥
key_or_answer p q = other (err_inside (sym p ∙ q))
  where
    other : {place : ℕ} → BadKey ≡ BadAnswer place → ⊥
    other e = absurd cc
