-- Looking through a list for a place with the name of another.
use Rattle.std.proofs.Common.{◌≡◌, ℕ, ◌+◌, ◌<◌, List, [], length, map, sym, ap, ◌∙◌, subst, arith}
use Rattle.std.specs.Prelude.{slice_index_or}
use Rattle.std.proofs.lemmas.List.{get_or-map, length-map}
use native.Mathlib.Decide.{ℕ_discrete}
use mathlib.Core.Logic.{dite}
use Rattle.sms_book.specs.Openings.{HaveOneName}

module _ {A : Type 0} (name : A → List ℕ) (items : List A) where
  name_at : (n : ℕ) (x : A) → n < length items → x ≡ slice_index_or items n x → slice_index_or (map name items) n [] ≡ name x
  name_at n x low is = get_or-map name items n x [] low ∙ ap name (sym is)

  pub one_name : (first second : ℕ) (x y : A) → first < second → second < length items → x ≡ slice_index_or items first x → y ≡ slice_index_or items second y → name x ≡ name y → HaveOneName (map name items) first second
  one_name first second x y below low is-x is-y same =
      record { before = below; there = let l = length-map items name in omega arith; same = name_at first x (omega arith) is-x ∙ same ∙ sym (name_at second y low is-y) }

  pub other_names : (first second : ℕ) (x y : A) → first < second → second < length items → x ≡ slice_index_or items first x → y ≡ slice_index_or items second y → (name x ≡ name y → ⊥)
      → ((k : ℕ) → k < first → ¬ (HaveOneName (map name items) k second)) → (k : ℕ) → k < first + 1 → ¬ (HaveOneName (map name items) k second)
  other_names first second x y below low is-x is-y differ before k low-k have = dite (ℕ_discrete k first)
      (λ e. differ (sym (name_at first x (omega arith) is-x) ∙ subst (λ (j : ℕ). slice_index_or (map name items) j [] ≡ slice_index_or (map name items) second []) e have.same ∙ name_at second y low is-y))
      (λ ne. before k (let h = have.before in omega arith) have)
