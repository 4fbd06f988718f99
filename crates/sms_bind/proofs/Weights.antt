-- Weights of lists of frames.
use Rattle.std.proofs.Common.{◌≡◌, ℕ, zero, suc, ◌+◌, List, [], ◌∷◌, ◌++◌, Bool, true, false, set, refl, sym, ap, ◌∙◌, arith}
use Rattle.std.specs.Prelude.{if◌then◌else◌}
use mathlib.Core.Option.{some, some-ne-none, some-injective}
use lib.ListN.{get_elem?}
use Rattle.sms_pdu.specs.Header.{number_at}
use Rattle.sms_bind.specs.declared.log.rule.View.{View}
use Rattle.sms_bind.specs.Frames.{is_unclaimed, requests, weigh, IsRequest, IsUnclaimed}
use Rattle.sms_bind.specs.LogRule.{total}

pub weigh-append : (h : List ℕ → ℕ) (xs ys : List (List ℕ)) → weigh h (xs ++ ys) ≡ weigh h xs + weigh h ys
weigh-append h [] ys = omega arith
weigh-append h (x ∷ xs) ys = let e = weigh-append h xs ys in omega arith

pub requests-append : (xs ys : List (List ℕ)) → requests (xs ++ ys) ≡ requests xs ++ requests ys
requests-append [] ys = refl
requests-append (x ∷ xs) ys = by_case (is_unclaimed (number_at 4 x)) (requests-append xs ys)
  where
    by_case : (b : Bool) → requests (xs ++ ys) ≡ requests xs ++ requests ys → (if b then requests (xs ++ ys) else x ∷ requests (xs ++ ys)) ≡ (if b then requests xs else x ∷ requests xs) ++ requests ys
    by_case true e = e
    by_case false e = ap (λ (l : List (List ℕ)). x ∷ l) e

pub requests-of_unclaimed : (xs : List (List ℕ)) (x : List ℕ) → IsUnclaimed x → requests (xs ++ x ∷ []) ≡ requests xs
requests-of_unclaimed [] x is = ap (λ (b : Bool). if b then [] else x ∷ []) is
requests-of_unclaimed (y ∷ ys) x is = by_case (is_unclaimed (number_at 4 y)) (requests-of_unclaimed ys x is)
  where
    by_case : (b : Bool) → requests (ys ++ x ∷ []) ≡ requests ys → (if b then requests (ys ++ x ∷ []) else y ∷ requests (ys ++ x ∷ [])) ≡ (if b then requests ys else y ∷ requests ys)
    by_case true e = e
    by_case false e = ap (λ (l : List (List ℕ)). y ∷ l) e

pub requests-of_request : (xs : List (List ℕ)) (x : List ℕ) → IsRequest x → requests (xs ++ x ∷ []) ≡ requests xs ++ x ∷ []
requests-of_request xs x is = requests-append xs (x ∷ []) ∙ ap (λ (b : Bool). requests xs ++ (if b then [] else x ∷ [])) is

-- ---- sums over views

pub total_set : (f : View → ℕ) (views : List View) (id : ℕ) (v w : View) → get_elem? views id ≡ some v → total f (set views id w) + f v ≡ total f views + f w
total_set f [] id v w at = absurd (some-ne-none v (sym at))
total_set f (x ∷ xs) zero v w at = let e : f x ≡ f v = ap f (some-injective x v at) in omega arith
total_set f (x ∷ xs) (suc id) v w at = let e = total_set f xs id v w at in omega arith

pub total_snoc : (f : View → ℕ) (views : List View) (w : View) → total f (views ++ w ∷ []) ≡ total f views + f w
total_snoc f [] w = omega arith
total_snoc f (x ∷ xs) w = let e = total_snoc f xs w in omega arith

-- one view is part of the sum
pub total_least : (f : View → ℕ) (views : List View) (id : ℕ) (v : View) → get_elem? views id ≡ some v → (rest : ℕ) × (total f views ≡ f v + rest)
total_least f [] id v at = absurd (some-ne-none v (sym at))
total_least f (x ∷ xs) zero v at = (total f xs, ap (λ (y : View). f y + total f xs) (some-injective x v at))
total_least f (x ∷ xs) (suc id) v at = let r = total_least f xs id v at in let e = r.1 in (f x + r.0, omega arith)
