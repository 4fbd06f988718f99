-- One more link that leads somewhere: what the searches come to then.
use Rattle.std.proofs.Common.{◌≡◌, ◌≢◌, ℕ, zero, suc, ◌+◌, ◌*◌, ◌/◌, ◌%◌, ◌^◌, ◌<◌, ◌≤◌, refl, ap, ◌∙◌, sym, arith}
use mathlib.Core.Logic.{dite}
use native.Mathlib.Decide.{ℕ_discrete}
use Rattle.sms_core.specs.Links.{rest_of, link_at, place_at, IsReachedOnce}

-- the link i, which led nowhere, leads to the new place n
pub record Grows (n none i : ℕ) (f g : ℕ → ℕ) : Type 0 where
  pub below : n < none
  pub real : (k : ℕ) → f k ≢ none → f k < n
  pub low : (k : ℕ) → f k < n → k < 8 * n + 2048
  pub inside : i < 8 * n + 2048
  pub was : f i ≡ none
  pub now : g i ≡ n
  pub kept : (k : ℕ) → k ≢ i → g k ≡ f k

-- a link that leads somewhere is another
pub other : {n none i : ℕ} {f g : ℕ → ℕ} → Grows n none i f g → (k : ℕ) → f k < n → k ≢ i
other {n} {none} {i} {f} {g} w k lt e = let is : f k ≡ f i = ap f e in omega (arith, w.was, w.below, is, lt)

-- the new place has no other link
fresh : {n none i : ℕ} {f g : ℕ → ℕ} → Grows n none i f g → (k : ℕ) → g k ≡ n → k ≡ i
fresh {n} {none} {i} {f} {g} w k e = dite (ℕ_discrete k i) (λ is. is)
    (λ ne. let kept : f k ≡ n = sym (w.kept k ne) ∙ e in
    let far : f k ≢ none = λ (z : f k ≡ none). omega (arith, w.below, kept, z) in
    absurd (omega (arith, w.real k far, kept)))

pub link_old : {n none i : ℕ} {f g : ℕ → ℕ} → Grows n none i f g → (t id : ℕ) → link_at f t id < 8 * n + 2048 → link_at g t id ≡ link_at f t id
link_old w zero id lt = refl
link_old {n} {none} {i} {f} {g} w (suc t) id lt =
    let p : place_at f t id < n = omega arith in
    let same : link_at g t id ≡ link_at f t id = link_old w t id (w.low (link_at f t id) p) in
    let kept : g (link_at f t id) ≡ f (link_at f t id) = w.kept (link_at f t id) (other w (link_at f t id) p) in
    ap (λ (k : ℕ). 8 * k + 2048 + rest_of t id % 8) (ap g same ∙ kept)

-- a link of the new searches that leads to an old place
back_low : {n none i : ℕ} {f g : ℕ → ℕ} → Grows n none i f g → (k : ℕ) → g k < n → (g k ≡ f k) × (k < 8 * n + 2048)
back_low {n} {none} {i} {f} {g} w k lt =
    let ne : k ≢ i = λ (e : k ≡ i). let is : g k ≡ g i = ap g e in omega (arith, w.now, is, lt) in
    let kept = w.kept k ne in
    (kept, w.low k (let h : f k < n = omega (arith, kept, lt) in h))

pub link_back : {n none i : ℕ} {f g : ℕ → ℕ} → Grows n none i f g → (t id : ℕ) → link_at g t id < 8 * n + 2048 → link_at g t id ≡ link_at f t id
link_back w zero id lt = refl
link_back {n} {none} {i} {f} {g} w (suc t) id lt =
    let p : place_at g t id < n = omega arith in
    let b = back_low w (link_at g t id) p in
    ap (λ (k : ℕ). 8 * k + 2048 + rest_of t id % 8) (b.0 ∙ ap f (link_back w t id b.1))

pub place_back : {n none i : ℕ} {f g : ℕ → ℕ} → Grows n none i f g → (t id : ℕ) → place_at g t id < n → place_at g t id ≡ place_at f t id
place_back {n} {none} {i} {f} {g} w t id p =
    let b = back_low w (link_at g t id) p in b.0 ∙ ap f (link_back w t id b.1)

once_old : {n none i : ℕ} {f g : ℕ → ℕ} → Grows n none i f g → IsReachedOnce n f → IsReachedOnce n g
once_old {n} {none} {i} {f} {g} w o t y u z lt e =
    let a = place_back w t y lt in
    let b = place_back w u z (let h : place_at g u z < n = omega (arith, e, lt) in h) in
    o t y u z (let h : place_at f t y < n = omega (arith, a, lt) in h) (sym a ∙ e ∙ b)

same_root : (a b : ℕ) → a / 2048 ≡ b / 2048 → a % 2048 ≡ b % 2048 → a ≡ b
same_root a b q r = omega arith

same_digit : (a b : ℕ) → a / 8 ≡ b / 8 → a % 8 ≡ b % 8 → a ≡ b
same_digit a b q r = omega arith

once_new : {n none i : ℕ} {f g : ℕ → ℕ} → Grows n none i f g → IsReachedOnce n f → (t y u z : ℕ) → link_at g t y ≡ i → link_at g u z ≡ i
    → (t ≡ u) × (rest_of t y ≡ rest_of u z → y ≡ z)
once_new w o zero y zero z a b = (refl, λ e. same_root y z e (a ∙ sym b))
once_new w o zero y (suc u) z a b = absurd (omega arith)
once_new w o (suc t) y zero z a b = absurd (omega arith)
once_new {n} {none} {i} {f} {g} w o (suc t) y (suc u) z a b =
    let p : place_at g t y < n = omega (arith, w.inside) in
    let same : place_at g t y ≡ place_at g u z = omega arith in
    let digit : rest_of t y % 8 ≡ rest_of u z % 8 = omega arith in
    let old = once_old w o t y u z p same in
    (ap suc old.0, λ e. old.1 (same_digit (rest_of t y) (rest_of u z) e digit))

pub once_grown : {n none i : ℕ} {f g : ℕ → ℕ} → Grows n none i f g → IsReachedOnce n f → IsReachedOnce (n + 1) g
once_grown {n} {none} {i} {f} {g} w o t y u z lt e = dite (ℕ_discrete (place_at g t y) n)
    (λ is. once_new w o t y u z (fresh w (link_at g t y) is) (fresh w (link_at g u z) (sym e ∙ is)))
    (λ ne. once_old w o t y u z (let h : place_at g t y < n = omega (arith, ne, lt) in h) e)

-- where a search has led nowhere it stays
pub stays : (n none : ℕ) (f : ℕ → ℕ) → n ≤ none → ((k : ℕ) → 8 * n + 2048 ≤ k → f k ≡ none) → (t id u : ℕ) → t ≤ u → place_at f t id ≡ none → place_at f u id ≡ none
stays n none f le far t id zero tu e = ap (λ (u : ℕ). place_at f u id) (let h : 0 ≡ t = omega arith in h) ∙ e
stays n none f le far t id (suc u) tu e = dite (ℕ_discrete t (suc u))
    (λ is. ap (λ (v : ℕ). place_at f v id) (sym is) ∙ e)
    (λ ne. let before : place_at f u id ≡ none = stays n none f le far t id u (let h : t ≤ u = omega (arith, tu, ne) in h) e in
    far (link_at f (suc u) id) (let h : 8 * n + 2048 ≤ 8 * place_at f u id + 2048 + rest_of u id % 8 = omega (arith, le, before) in h))

-- a name has 32 bits
pub whole : (id : ℕ) → id < 2 ^ 32 → rest_of 7 id ≡ 0
whole id lt = omega arith
