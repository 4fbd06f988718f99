-- The groups of a text, and where it can be cut between two of them.
use Rattle.std.proofs.Common.{◌≡◌, ℕ, ◌<◌, ◌≤◌, true, false, not, ◌&&◌, List, [], ◌∷◌, ◌++◌, length, refl, sym, ◌∙◌, ap, inl, inr, arith}
use Rattle.std.proofs.lemmas.Bool.{cases_Bool, cond-true, cond-false}
use Rattle.std.specs.List.{concat, AllByRecursion}
use Rattle.sms_alphabet.specs.declared.coded.Coding.{Coding}
use Rattle.sms_segment.specs.Group.{opens, closes, is_pair, groups}
use Rattle.sms_segment.specs.Front.{is_open}
use Rattle.sms_segment.specs.Cutting.{first_group}
use Rattle.sms_segment.specs.Laws.{IsGroup}

module _ (coding : Coding) where
  pub groups-pair : (x y : ℕ) (units : List ℕ) → is_pair coding x y ≡ true → groups coding (x ∷ (y ∷ units)) ≡ (x ∷ (y ∷ [])) ∷ groups coding units
  groups-pair x y units e = cond-true _ _ _ e

  groups-single : (x y : ℕ) (units : List ℕ) → is_pair coding x y ≡ false → groups coding (x ∷ (y ∷ units)) ≡ (x ∷ []) ∷ groups coding (y ∷ units)
  groups-single x y units e = cond-false _ _ _ e

  -- the groups are the text again
  pub concat-groups : (units : List ℕ) → concat (groups coding units) ≡ units
  concat-groups [] = refl
  concat-groups (x ∷ []) = refl
  concat-groups (x ∷ (y ∷ units)) =
      elim (cases_Bool (is_pair coding x y)) [
        | inl e ↦ rw (groups-pair x y units e) (ap (λ l. x ∷ (y ∷ l)) (concat-groups units))
        | inr e ↦ rw (groups-single x y units e) (ap (λ l. x ∷ l) (concat-groups (y ∷ units)))
      ]

  -- each group has one unit or two
  pub short-groups : (limit : ℕ) → 2 ≤ limit → (units : List ℕ) → AllByRecursion (λ g. length g ≤ limit) (groups coding units)
  short-groups limit two [] = tt
  short-groups limit two (x ∷ []) = (omega arith, tt)
  short-groups limit two (x ∷ (y ∷ units)) =
      elim (cases_Bool (is_pair coding x y)) [
        | inl e ↦ rw (groups-pair x y units e) (two, short-groups limit two units)
        | inr e ↦ rw (groups-single x y units e) (omega arith, short-groups limit two (y ∷ units))
      ]

  -- the first group has a unit
  pub some-first_group : (x : ℕ) (units : List ℕ) → 0 < length (first_group (groups coding (x ∷ units)))
  some-first_group x [] = omega arith
  some-first_group x (y ∷ units) =
      elim (cases_Bool (is_pair coding x y)) [
        | inl e ↦ rw (groups-pair x y units e) (omega arith)
        | inr e ↦ rw (groups-single x y units e) (omega arith)
      ]

  -- a text can be cut where no pair is open that the next unit closes
  pub groups-append : (front : List ℕ) (y : ℕ) (back : List ℕ) → (is_open coding front && closes coding y) ≡ false → groups coding (front ++ y ∷ back) ≡ groups coding front ++ groups coding (y ∷ back)
  groups-append [] y back e = refl
  groups-append (x ∷ []) y back e = groups-single x y back e
  groups-append (x ∷ (z ∷ units)) y back e =
      elim (cases_Bool (is_pair coding x z)) [
        | inl pair ↦
            let rest : groups coding (units ++ y ∷ back) ≡ groups coding units ++ groups coding (y ∷ back) =
            groups-append units y back (ap (λ b. b && closes coding y) (sym (cond-true (is_pair coding x z) (is_open coding units) (is_open coding (z ∷ units)) pair)) ∙ e) in
            groups-pair x z (units ++ y ∷ back) pair ∙ ap (λ gs. (x ∷ (z ∷ [])) ∷ gs) rest ∙ ap (λ gs. gs ++ groups coding (y ∷ back)) (sym (groups-pair x z units pair))
        | inr single ↦
            let rest : groups coding (z ∷ (units ++ y ∷ back)) ≡ groups coding (z ∷ units) ++ groups coding (y ∷ back) =
            groups-append (z ∷ units) y back (ap (λ b. b && closes coding y) (sym (cond-false (is_pair coding x z) (is_open coding units) (is_open coding (z ∷ units)) single)) ∙ e) in
            groups-single x z (units ++ y ∷ back) single ∙ ap (λ gs. (x ∷ []) ∷ gs) rest ∙ ap (λ gs. gs ++ groups coding (y ∷ back)) (sym (groups-single x z units single))
      ]

  -- one unit more: it is open where it opens a pair and does not close one
  pub is_open-push : (front : List ℕ) (y : ℕ) → is_open coding (front ++ y ∷ []) ≡ (not (is_open coding front && closes coding y) && opens coding y)
  is_open-push [] y = refl
  is_open-push (x ∷ []) y =
      elim (cases_Bool (is_pair coding x y)) [
        | inl pair ↦ rw (cond-true (is_pair coding x y) (is_open coding []) (opens coding y) pair, pair) refl
        | inr single ↦ rw (cond-false (is_pair coding x y) (is_open coding []) (opens coding y) single, single) refl
      ]
  is_open-push (x ∷ (z ∷ units)) y =
      elim (cases_Bool (is_pair coding x z)) [
        | inl pair ↦
            cond-true (is_pair coding x z) (is_open coding (units ++ y ∷ [])) (is_open coding (z ∷ (units ++ y ∷ []))) pair
            ∙ is_open-push units y
            ∙ ap (λ b. not (b && closes coding y) && opens coding y) (sym (cond-true (is_pair coding x z) (is_open coding units) (is_open coding (z ∷ units)) pair))
        | inr single ↦
            cond-false (is_pair coding x z) (is_open coding (units ++ y ∷ [])) (is_open coding (z ∷ (units ++ y ∷ []))) single
            ∙ is_open-push (z ∷ units) y
            ∙ ap (λ b. not (b && closes coding y) && opens coding y) (sym (cond-false (is_pair coding x z) (is_open coding units) (is_open coding (z ∷ units)) single))
      ]

  -- each group is one unit or a pair
  pub each-group : (units : List ℕ) → AllByRecursion (IsGroup coding) (groups coding units)
  each-group [] = tt
  each-group (x ∷ []) = (inl (x, refl), tt)
  each-group (x ∷ (y ∷ units)) =
      elim (cases_Bool (is_pair coding x y)) [
        | inl e ↦ rw (groups-pair x y units e) (inr (x, y, refl, e), each-group units)
        | inr e ↦ rw (groups-single x y units e) (inl (x, refl), each-group (y ∷ units))
      ]
