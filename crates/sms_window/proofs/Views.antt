-- What the change of one view does to totals and to the hold set.
use Rattle.std.proofs.Common.{◌≡◌, ◌≢◌, ℕ, zero, suc, ◌+◌, ◌≤◌, List, [], ◌∷◌, ◌++◌, set, refl, sym, ap, ◌∙◌, arith}
use mathlib.Core.Option.{some, some-ne-none, some-injective}
use lib.ListN.{get_elem?}
use Rattle.atomic_table.proofs.Lists.{set_else}
use Rattle.sms_core.specs.Holds.{weigh}
use Rattle.sms_core.specs.Numbers.{times}
use Rattle.sms_core.proofs.Pairs.{weigh-append, spread, spread-zero, weigh-pairs_below}
use Rattle.sms_window.specs.declared.view.View.{View}
use Rattle.sms_window.specs.Seats.{own_pairs}
use Rattle.sms_window.specs.Rule.{total, pairs_of, numbers_of}
use Rattle.sms_core.proofs.Numbers.{times_append}

pub total_set : (f : View → ℕ) (views : List View) (id : ℕ) (v w : View) → get_elem? views id ≡ some v → total f (set views id w) + f v ≡ total f views + f w
total_set f [] id v w at = absurd (some-ne-none v (sym at))
total_set f (u ∷ views) zero v w at = let e : f u ≡ f v = ap f (some-injective u v at) in omega arith
total_set f (u ∷ views) (suc id) v w at = omega (arith, total_set f views id v w at)

pub total_snoc : (f : View → ℕ) (views : List View) (w : View) → total f (views ++ w ∷ []) ≡ total f views + f w
total_snoc f [] w = omega arith
total_snoc f (v ∷ views) w = omega (arith, total_snoc f views w)

pub total_one : (f : View → ℕ) (views : List View) (i : ℕ) (v : View) → get_elem? views i ≡ some v → f v ≤ total f views
total_one f [] i v a = absurd (some-ne-none v (sym a))
total_one f (u ∷ views) zero v a = let e : f u ≡ f v = ap f (some-injective u v a) in omega arith
total_one f (u ∷ views) (suc i) v a = omega (arith, total_one f views i v a)

pub total_two : (f : View → ℕ) (views : List View) (i j : ℕ) (v w : View) → i ≢ j → get_elem? views i ≡ some v → get_elem? views j ≡ some w → f v + f w ≤ total f views
total_two f [] i j v w ne a b = absurd (some-ne-none v (sym a))
total_two f (u ∷ views) zero zero v w ne a b = absurd (ne refl)
total_two f (u ∷ views) zero (suc j) v w ne a b = let e : f u ≡ f v = ap f (some-injective u v a) in omega (arith, total_one f views j w b)
total_two f (u ∷ views) (suc i) zero v w ne a b = let e : f u ≡ f w = ap f (some-injective u w b) in omega (arith, total_one f views i v a)
total_two f (u ∷ views) (suc i) (suc j) v w ne a b = omega (arith, total_two f views i j v w (λ e. ne (ap suc e)) a b)

pub total_same : (f g : View → ℕ) (views : List View) → ((j : ℕ) (u : View) → get_elem? views j ≡ some u → f u ≡ g u) → total f views ≡ total g views
total_same f g [] e = refl
total_same f g (v ∷ views) e = let a = e 0 v refl in omega (arith, total_same f g views (λ j u at. e (suc j) u at))

-- where all others count nothing
pub total_only : (f : View → ℕ) (views : List View) (id : ℕ) (v : View) → get_elem? views id ≡ some v → ((j : ℕ) (u : View) → j ≢ id → get_elem? views j ≡ some u → f u ≡ 0) → total f views ≡ f v
total_only f [] id v at e = absurd (some-ne-none v (sym at))
total_only f (u ∷ views) zero v at e = let a : f u ≡ f v = ap f (some-injective u v at) in let z = total_none f views (λ j w there. e (suc j) w (λ h. omega arith) there) in omega arith
  where
    total_none : (f : View → ℕ) (views : List View) → ((j : ℕ) (u : View) → get_elem? views j ≡ some u → f u ≡ 0) → total f views ≡ 0
    total_none f [] e = refl
    total_none f (v ∷ views) e = let a = e 0 v refl in omega (arith, total_none f views (λ j u at. e (suc j) u at))
total_only f (u ∷ views) (suc id) v at e = let a = e 0 u (λ h. omega arith) refl in omega (arith, total_only f views id v at (λ j w ne there. e (suc j) w (λ h. ne (omega arith)) there))

-- two seats that join: what both have is what each has
pub total_join : (f : View → ℕ) (views : List View) (id other : ℕ) (v w both spent : View) → other ≢ id → get_elem? views id ≡ some v → get_elem? views other ≡ some w
    → f both ≡ f v + f w → f spent ≡ 0 → total f (set (set views id both) other spent) ≡ total f views
total_join f views id other v w both spent ne at there e z =
    let a = total_set f views id v both at in
    let b = total_set f (set views id both) other w spent (set_else views id other both ne ∙ there) in
    omega arith

-- the weight of a view's pairs
abbrev pub own : (ℕ × ℕ → ℕ) → View → ℕ
own f v = spread f v.name v.slots 64

pub weigh-pairs_of : (f : ℕ × ℕ → ℕ) (views : List View) → weigh f (pairs_of views) ≡ total (own f) views
weigh-pairs_of f [] = refl
weigh-pairs_of f (v ∷ views) = omega (arith, weigh-append f (own_pairs v) (pairs_of views), weigh-pairs_below f v.name v.slots 64, weigh-pairs_of f views)

pub pairs_set : (f : ℕ × ℕ → ℕ) (views : List View) (id : ℕ) (v w : View) → get_elem? views id ≡ some v → weigh f (pairs_of (set views id w)) + own f v ≡ weigh f (pairs_of views) + own f w
pairs_set f views id v w at = let a = weigh-pairs_of f (set views id w) in let b = weigh-pairs_of f views in let t = total_set (own f) views id v w at in omega arith

pub set_at : {A : Type 0} (xs : List A) (i : ℕ) (x y : A) → get_elem? xs i ≡ some x → get_elem? (set xs i y) i ≡ some y
set_at [] i x y at = absurd (some-ne-none x (sym at))
set_at (z ∷ xs) zero x y at = refl
set_at (z ∷ xs) (suc i) x y at = set_at xs i x y at

-- a seat's pairs are among those of all
pub own_le : (f : ℕ × ℕ → ℕ) (views : List View) (id : ℕ) (v : View) → get_elem? views id ≡ some v → own f v ≤ weigh f (pairs_of views)
own_le f views id v at =
    let bare : View = record v { slots = 0 } in
    let t = pairs_set f views id v bare at in let z : own f bare ≡ 0 = spread-zero f v.name 64 in omega arith

-- how often a number was drawn
pub times-numbers_of : (n : ℕ) (views : List View) → times n (numbers_of views) ≡ total (λ v. times n v.numbers) views
times-numbers_of n [] = refl
times-numbers_of n (v ∷ views) = omega (arith, times_append n v.numbers (numbers_of views), times-numbers_of n views)
