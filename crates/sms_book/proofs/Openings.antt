-- Looking through a list of openings.
use Rattle.std.proofs.Common.{◌≡◌, ◌⊎◌, ℕ, ◌+◌, ◌<◌, ◌≤◌, List, length, sym, ap, ◌∙◌, subst, arith, inl, inr}
use Rattle.std.specs.Prelude.{slice_index, slice_index_or}
use Rattle.std.proofs.lemmas.List.{get_or-map, length-map}
use native.Mathlib.Decide.{ℕ_discrete, dec_lt}
use mathlib.Core.Logic.{dite}
use Rattle.sms_book.specs.declared.opening.Opening.{Opening}
use Rattle.sms_core.specs.Limits.{most_topped}
use Rattle.sms_book.specs.Openings.{credits_of, HaveOneName, IsFirstDouble, AllSmall}

credits_at : (os : List Opening) (n : ℕ) (o : Opening) → n < length os → o ≡ slice_index_or os n o → slice_index (credits_of os) n ≡ o.credits
credits_at os n o low is = get_or-map (λ x. x.credits) os n o 0 low ∙ ap (λ x. x.credits) (sym is)

pub small_more : (os : List Opening) (n : ℕ) (o : Opening) → n < length os → o ≡ slice_index_or os n o → o.credits ≤ most_topped → ((k : ℕ) → k < n → slice_index (credits_of os) k ≤ most_topped)
    → (k : ℕ) → k < n + 1 → slice_index (credits_of os) k ≤ most_topped
small_more os n o low is small before k below = dite (ℕ_discrete k n)
    (λ e. subst (λ (j : ℕ). slice_index (credits_of os) j ≤ most_topped) (sym e) (rw (credits_at os n o low is) small))
    (λ ne. before k (omega arith))

pub not_small : (os : List Opening) (n : ℕ) (o : Opening) → n < length os → o ≡ slice_index_or os n o → most_topped < o.credits → ¬ (AllSmall (credits_of os))
not_small os n o low is large all =
    let h : slice_index (credits_of os) n ≤ most_topped = all n (let l = length-map os (λ x. x.credits) in omega arith) in
    let e = credits_at os n o low is in
    omega arith

pub all_small : (os : List Opening) → ((k : ℕ) → k < length os → slice_index (credits_of os) k ≤ most_topped) → AllSmall (credits_of os)
all_small os h i low = h i (let l = length-map os (λ x. x.credits) in omega arith)

pub first_of_all : (names : List (List ℕ)) (first second : ℕ) → HaveOneName names first second → ((k : ℕ) → k < first → ¬ (HaveOneName names k second)) → ((x y : ℕ) → y < second → ¬ (HaveOneName names x y))
    → IsFirstDouble names first second
first_of_all names first second have least before = (
  have,
  λ x y other. dite (dec_lt second y) (λ below. inl below) (λ no. dite (ℕ_discrete second y)
      (λ e. inr (e, dite (dec_lt x first) (λ low. absurd (least x low (subst (λ (j : ℕ). HaveOneName names x j) (sym e) other))) (λ no'. omega arith)))
      (λ ne. absurd (before x y (omega arith) other))),
)

pub none_so_far : (names : List (List ℕ)) (second : ℕ) → ((x : ℕ) → ¬ (HaveOneName names x second)) → ((x y : ℕ) → y < second → ¬ (HaveOneName names x y)) → (x y : ℕ) → y < second + 1 → ¬ (HaveOneName names x y)
none_so_far names second none before x y low have = dite (ℕ_discrete y second)
    (λ e. none x (subst (λ (j : ℕ). HaveOneName names x j) e have))
    (λ ne. before x y (omega arith) have)

-- only one pair is the first
pub one_first : (names : List (List ℕ)) (a b c d : ℕ) → IsFirstDouble names a b → IsFirstDouble names c d → (a ≡ c) × (b ≡ d)
one_first names a b c d p q = both (p.1 c d q.0) (q.1 a b p.0)
  where
    both : (b < d) ⊎ ((b ≡ d) × (a ≤ c)) → (d < b) ⊎ ((d ≡ b) × (c ≤ a)) → (a ≡ c) × (b ≡ d)
    both (inl x) (inl y) = absurd (omega arith)
    both (inl x) (inr y) = let e = y.0 in absurd (omega arith)
    both (inr x) (inl y) = let e = x.0 in absurd (omega arith)
    both (inr x) (inr y) = let e = x.1 in let f = y.1 in (omega arith, x.0)
