-- What is printed of records, from a place on.
use Rattle.std.proofs.Common.{◌≡◌, ◌∙◌, ◌≤◌, ◌<◌, sym, refl, ap, ℕ, zero, suc, ◌+◌, ◌-◌, min, List, [], ◌∷◌, ◌++◌, length, map, drop, take, get_or, append_assoc, arith}
use Rattle.std.proofs.lemmas.List.{append-nil, length-drop, take_all}
use Rattle.std.specs.Prelude.{Option, String}
use Rattle.std.specs.declared.alloc.Global.{Global}
use Rattle.sms_book.specs.declared.opening.Opening.{Opening}
use Rattle.sms_files.specs.Fields.{Record}
use Rattle.sms_files.proofs.Lists.{drop_step, drop_whole}
use Rattle.sms_journal.proofs.Stages.{as_many}
use Rattle.sms_journal.specs.Rest.{account_text, account_texts, is_unsent, left_text, left_texts}

module _ {A : Type 0} (f : A → Record) where
  -- a message more
  pub left_more : (refs : Option (List (String Global))) (report : List Record) (xs : List A) (k : ℕ) (x : A) (text pushed all : List ℕ) → k < length xs → x ≡ get_or xs k x → text ++ left_texts refs report k (map f (drop k xs)) ≡ all
      → pushed ≡ text ++ left_text refs k (is_unsent k report) (f x) → pushed ++ left_texts refs report (k + 1) (map f (drop (k + 1) xs)) ≡ all
  left_more refs report xs k x text pushed all low its before grows =
      ap (λ (t : List ℕ). t ++ left_texts refs report (k + 1) (map f (drop (k + 1) xs))) grows
      ∙ append_assoc text (left_text refs k (is_unsent k report) (f x)) (left_texts refs report (k + 1) (map f (drop (k + 1) xs)))
      ∙ ap (λ (l : List A). text ++ left_texts refs report k (map f l)) (sym (drop_step xs k x low its)) ∙ before

  pub left_end : (refs : Option (List (String Global))) (report : List Record) (xs : List A) (k : ℕ) (text all : List ℕ) → length xs ≤ k → text ++ left_texts refs report k (map f (drop k xs)) ≡ all → text ≡ all
  left_end refs report xs k text all high before = sym (append-nil text) ∙ ap (λ (l : List A). text ++ left_texts refs report k (map f l)) (sym (drop_whole xs k high)) ∙ before

  -- an account more
  pub account_more : (os : List Opening) (xs : List A) (k : ℕ) (o : Opening) (x : A) (text pushed all : List ℕ) → k < length os → k < length xs → o ≡ get_or os k o → x ≡ get_or xs k x
      → text ++ account_texts (drop k os) (map f (drop k xs)) ≡ all → pushed ≡ text ++ account_text o (f x) → pushed ++ account_texts (drop (k + 1) os) (map f (drop (k + 1) xs)) ≡ all
  account_more os xs k o x text pushed all low lower is its before grows =
      ap (λ (t : List ℕ). t ++ account_texts (drop (k + 1) os) (map f (drop (k + 1) xs))) grows
      ∙ append_assoc text (account_text o (f x)) (account_texts (drop (k + 1) os) (map f (drop (k + 1) xs)))
      ∙ ap (λ (l : List A). text ++ account_texts (o ∷ drop (k + 1) os) (map f l)) (sym (drop_step xs k x lower its))
      ∙ ap (λ (l : List Opening). text ++ account_texts l (map f (drop k xs))) (sym (drop_step os k o low is)) ∙ before

  no_rows : (os : List Opening) → account_texts os [] ≡ []
  no_rows [] = refl
  no_rows (o ∷ os) = refl

  ended : (os : List Opening) (xs : List A) (k : ℕ) → min (length os) (length xs) ≤ k → account_texts (drop k os) (map f (drop k xs)) ≡ []
  ended [] xs zero h = refl
  ended [] xs (suc k) h = refl
  ended (o ∷ os) [] zero h = refl
  ended (o ∷ os) [] (suc k) h = no_rows (drop k os)
  ended (o ∷ os) (x ∷ xs) zero h = absurd (omega (arith, h))
  ended (o ∷ os) (x ∷ xs) (suc k) h = ended os xs k (omega (arith, h))

  pub account_end : (os : List Opening) (xs : List A) (k : ℕ) (text all : List ℕ) → min (length os) (length xs) ≤ k → text ++ account_texts (drop k os) (map f (drop k xs)) ≡ all → text ≡ all
  account_end os xs k text all high before = sym (append-nil text) ∙ ap (λ (t : List ℕ). text ++ t) (sym (ended os xs k high)) ∙ before

  -- fields of a list's end
  pub map_drop : (n : ℕ) (xs : List A) → map f (drop n xs) ≡ drop n (map f xs)
  map_drop zero xs = refl
  map_drop (suc n) [] = refl
  map_drop (suc n) (x ∷ xs) = map_drop n xs

  -- the last so many, as a slice up to the end
  pub at_end : (xs : List A) (n lines : ℕ) → lines ≡ length xs - n → map f (take (length xs - lines) (drop lines xs)) ≡ drop (length (map f xs) - n) (map f xs)
  at_end xs n lines is =
      let dropped = length-drop lines xs in
      ap (map f) (take_all (length xs - lines) (drop lines xs) (omega (arith, dropped))) ∙ map_drop lines xs
      ∙ ap (λ (k : ℕ). drop k (map f xs)) (is ∙ ap (λ (l : ℕ). l - n) (sym (as_many f xs)))
