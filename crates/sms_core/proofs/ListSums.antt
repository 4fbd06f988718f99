-- Sums over lists: joined lists, a list of lists, one element changed, and two lists side by side.
use Rattle.std.proofs.Common.{◌≡◌, ℕ, zero, suc, ◌+◌, ◌≤◌, List, [], ◌∷◌, map, set, slice_get, Some, sum_by, refl, ap, arith}
use Rattle.std.specs.List.{AllZip, flat_map, zip}
use Rattle.std.proofs.lemmas.List.Sums.{sum_by-cons, sum_by-append}

module _ {X : Type 0} where
  pub sum_by-map : {Y : Type 0} (f : Y → ℕ) (g : X → Y) (xs : List X) → sum_by f (map g xs) ≡ sum_by (λ x. f (g x)) xs
  sum_by-map f g [] = refl
  sum_by-map f g (x ∷ xs) = omega (arith, sum_by-cons f (g x) (map g xs), sum_by-cons (λ y. f (g y)) x xs, sum_by-map f g xs)

  -- lists joined end to end
  pub sum_by-flat_map : {Y : Type 0} (f : Y → ℕ) (g : X → List Y) (xs : List X) → sum_by f (flat_map g xs) ≡ sum_by (λ x. sum_by f (g x)) xs
  sum_by-flat_map f g [] = refl
  sum_by-flat_map f g (x ∷ xs) =
      omega (arith, sum_by-append f (g x) (flat_map g xs), sum_by-cons (λ y. sum_by f (g y)) x xs, sum_by-flat_map f g xs)

  -- another element in a place
  pub sum_by-put : (f : X → ℕ) (xs : List X) (place : ℕ) (x y : X) → slice_get xs place ≡ Some x → sum_by f (set xs place y) + f x ≡ sum_by f xs + f y
  sum_by-put f [] place x y at = absurd (cc)
  sum_by-put f (z ∷ xs) zero x y at =
      let same : z ≡ x = cc in
      let e : f z ≡ f x = ap f same in
      omega (arith, sum_by-cons f y xs, sum_by-cons f z xs)
  sum_by-put f (z ∷ xs) (suc place) x y at =
      omega (arith, sum_by-cons f z (set xs place y), sum_by-cons f z xs, sum_by-put f xs place x y at)

  -- one element's part is within the whole
  pub sum_by-at_most : (f : X → ℕ) (xs : List X) (place : ℕ) (x : X) → slice_get xs place ≡ Some x → f x ≤ sum_by f xs
  sum_by-at_most f [] place x at = absurd (cc)
  sum_by-at_most f (z ∷ xs) zero x at =
      let same : z ≡ x = cc in
      let e : f z ≡ f x = ap f same in
      omega (arith, sum_by-cons f z xs)
  sum_by-at_most f (z ∷ xs) (suc place) x at = omega (arith, sum_by-cons f z xs, sum_by-at_most f xs place x at)

  -- where each element grew by what it was given, the sum grew by all that was given
  pub sums_grow : {Y : Type 0} (old : X → ℕ) (new : Y → ℕ) (more : X → Y → ℕ) (xs : List X) (ys : List Y) → AllZip (λ x y. new y ≡ old x + more x y) xs ys
      → sum_by new ys ≡ sum_by old xs + sum_by (λ p. more p.0 p.1) (zip xs ys)
  sums_grow old new more [] [] z = refl
  sums_grow old new more [] (y ∷ ys) z = absurd z
  sums_grow old new more (x ∷ xs) [] z = absurd z
  sums_grow old new more (x ∷ xs) (y ∷ ys) z =
      let one = z.0 in
      omega (arith, sum_by-cons new y ys, sum_by-cons old x xs, sum_by-cons (λ p. more p.0 p.1) (x, y) (zip xs ys), sums_grow old new more xs ys z.1)

-- another element in a place of one of the joined lists
pub sum_by-put_within : {X : Type 0} (f : X → ℕ) (xss : List (List X)) (outer inner : ℕ) (xs : List X) (x y : X) → slice_get xss outer ≡ Some xs → slice_get xs inner ≡ Some x
    → sum_by f (flat_map (λ l. l) (set xss outer (set xs inner y))) + f x ≡ sum_by f (flat_map (λ l. l) xss) + f y
sum_by-put_within f xss outer inner xs x y there at =
    let one = sum_by-put f xs inner x y at in
    let all = sum_by-put (λ l. sum_by f l) xss outer xs (set xs inner y) there in
    let new = sum_by-flat_map f (λ l. l) (set xss outer (set xs inner y)) in
    let old = sum_by-flat_map f (λ l. l) xss in
    omega arith
