-- A list is gone through, and what is made of each element is pushed.
use Rattle.std.proofs.Common.{◌≡◌, ℕ, ◌+◌, ◌<◌, ◌≤◌, List, [], ◌∷◌, ◌++◌, length, map, take, sym, ap, ◌∙◌}
use Rattle.std.specs.Prelude.{slice_index_or}
use Rattle.std.proofs.lemmas.List.{take_more, take_all, map_push}

module _ {A B : Type 0} (f : A → B) where
  pub pushed : (xs : List A) (n : ℕ) (x : A) (made more : List B) → n < length xs → x ≡ slice_index_or xs n x → more ≡ made ++ f x ∷ [] → made ≡ map f (take n xs) → more ≡ map f (take (n + 1) xs)
  pushed xs n x made more low is adds was =
      adds ∙ ap (λ (l : List B). l ++ f x ∷ []) was ∙ ap (λ (y : A). map f (take n xs) ++ f y ∷ []) is ∙ sym (ap (map f) (take_more xs n x low) ∙ map_push f (take n xs) (slice_index_or xs n x))

  pub all_pushed : (xs : List A) (n : ℕ) (made : List B) → length xs ≤ n → made ≡ map f (take n xs) → made ≡ map f xs
  all_pushed xs n made all was = was ∙ ap (map f) (take_all n xs all)

-- what is pushed is as the element, where both are seen in one way
pub pushed_like : {A B C : Type 0} (f : A → B) (g : C → B) (xs : List A) (n : ℕ) (x : A) (made more : List C) (y : C) → n < length xs → x ≡ slice_index_or xs n x → g y ≡ f x → more ≡ made ++ y ∷ []
    → map g made ≡ map f (take n xs) → map g more ≡ map f (take (n + 1) xs)
pushed_like f g xs n x made more y low is same adds was =
    pushed f xs n x (map g made) (map g more) low is (ap (map g) adds ∙ map_push g made y ∙ ap (λ k. map g made ++ k ∷ []) same) was
