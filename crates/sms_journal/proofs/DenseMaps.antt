-- A map with one value more.
use Rattle.std.proofs.Common.{◌≡◌, ℕ, zero, suc, ◌<◌, ◌≤◌, List, [], ◌∷◌, ◌++◌, length, set, Some, None, refl, sym, ap, ◌∙◌, Bool, true, false, get_or}
use Rattle.std.specs.Prelude.{Option, if◌then◌else◌, ◌==◌, ◌&&◌}
use Rattle.std.specs.Option.{is_some}
use Rattle.std.proofs.lemmas.Bool.{eqb-true, eqb-false}
use Rattle.std.proofs.lemmas.List.{get_or-set_same, get_or-set_other, get_or_past, get_or_push}
use Rattle.std.proofs.lemmas.Option.{unwrap_or-slice_get}
use Rattle.sms_journal.specs.declared.notes.dense_map.DenseMap.{DenseMap}
use Rattle.sms_journal.specs.DenseMap.{listed_at, value_at, value_of}
use Rattle.sms_journal.specs.Recovered.{or_else}
use Rattle.sms_journal.proofs.Firsts.{or_none}

module _ {T : Type 0} where
  pub listed_set : (xs : List (Option T)) (k q : ℕ) (x : Option T) → k < length xs → listed_at (set xs k x) q ≡ (if k == q then x else listed_at xs q)
  listed_set xs k q x low = unwrap_or-slice_get (set xs k x) q None ∙ here (k == q) refl
    where
      here : (b : Bool) → (k == q) ≡ b → get_or (set xs k x) q None ≡ (if b then x else listed_at xs q)
      here true e = ap (λ j. get_or (set xs k x) j None) (sym (eqb-true k q e)) ∙ get_or-set_same xs k x None low
      here false e = get_or-set_other xs k q x None (λ same. eqb-false k q e (sym same)) ∙ sym (unwrap_or-slice_get xs q None)

  others_stay : (xs : List (Option T)) (q : ℕ) (x : Option T) → (length xs ≡ q → ⊥) → listed_at (xs ++ x ∷ []) q ≡ listed_at xs q
  others_stay [] zero x other = absurd (other refl)
  others_stay [] (suc q) x other = refl
  others_stay (y ∷ xs) zero x other = refl
  others_stay (y ∷ xs) (suc q) x other = others_stay xs q x (λ e. other (ap suc e))

  listed_push : (xs : List (Option T)) (q : ℕ) (x : Option T) → listed_at (xs ++ x ∷ []) q ≡ (if length xs == q then x else listed_at xs q)
  listed_push xs q x = here (length xs == q) refl
    where
      here : (b : Bool) → (length xs == q) ≡ b → listed_at (xs ++ x ∷ []) q ≡ (if b then x else listed_at xs q)
      here true e = unwrap_or-slice_get (xs ++ x ∷ []) q None ∙ get_or_push xs x None q (eqb-true (length xs) q e)
      here false e = others_stay xs q x (eqb-false (length xs) q e)

  pub appended : (old before new : List (Option T)) (place q : ℕ) (v : T) → ((i : ℕ) → listed_at before i ≡ listed_at old i) → length before ≡ place → new ≡ before ++ Some v ∷ []
      → listed_at new q ≡ (if place == q then Some v else listed_at old q)
  appended old before new place q v same long is = ap (λ xs. listed_at xs q) is ∙ listed_push before q (Some v) ∙ (λ i. if long i == q then Some v else same q i)

  -- a list that is as long as before but for places without a value
  pub listed_none : (xs : List (Option T)) (q : ℕ) → listed_at (xs ++ None ∷ []) q ≡ listed_at xs q
  listed_none [] zero = refl
  listed_none [] (suc q) = refl
  listed_none (y ∷ xs) zero = refl
  listed_none (y ∷ xs) (suc q) = listed_none xs q

  pub listed_past : (xs : List (Option T)) (q : ℕ) → length xs ≤ q → listed_at xs q ≡ None
  listed_past xs q past = unwrap_or-slice_get xs q None ∙ get_or_past xs q None past

  -- the value in the list, and that in the map beside it
  pub put_near : (b : Bool) (v : T) (old new far : Option T) → new ≡ (if b then Some v else old) → or_else new far ≡ (if b then Some v else or_else old far)
  put_near true v old new far e = ap (λ o. or_else o far) e
  put_near false v old new far e = ap (λ o. or_else o far) e

  pub put_far : (b : Bool) (v : T) (near old new : Option T) → (b ≡ true → near ≡ None) → new ≡ (if b then Some v else old) → or_else near new ≡ (if b then Some v else or_else near old)
  put_far true v near old new none e = ap (λ o. or_else o new) (none refl) ∙ e
  put_far false v near old new none e = ap (or_else near) e

  -- the first value of a key stays
  pub first_stays : (f : ℕ → Option T) (key q : ℕ) (v : T) → is_some (f key) ≡ true → f q ≡ or_else (f q) (if key == q then Some v else None)
  first_stays f key q v some = here (key == q) refl
    where
      some_stays : (o : Option T) (v : T) → is_some o ≡ true → o ≡ or_else o (Some v)
      some_stays None v e = absurd (cc)
      some_stays (Some x) v e = refl

      here : (b : Bool) → (key == q) ≡ b → f q ≡ or_else (f q) (if b then Some v else None)
      here true e = some_stays (f q) v (ap (λ k. is_some (f k)) (sym (eqb-true key q e)) ∙ some)
      here false e = sym (or_none (f q))

  pub first_put : (f g : ℕ → Option T) (key q : ℕ) (v : T) → is_some (f key) ≡ false → g q ≡ (if key == q then Some v else f q) → g q ≡ or_else (f q) (if key == q then Some v else None)
  first_put f g key q v none is = is ∙ here (key == q) refl
    where
      none_before : (o : Option T) (v : T) → is_some o ≡ false → Some v ≡ or_else o (Some v)
      none_before None v e = refl
      none_before (Some x) v e = absurd (cc)

      here : (b : Bool) → (key == q) ≡ b → (if b then Some v else f q) ≡ or_else (f q) (if b then Some v else None)
      here true e = none_before (f q) v (ap (λ k. is_some (f k)) (sym (eqb-true key q e)) ∙ none)
      here false e = sym (or_none (f q))

  -- a map of one value, put among others
  pub row_put : (row key r q : ℕ) (v : T) (map : DenseMap T) (old new : Option (DenseMap T)) → (row ≡ r → old ≡ None) → ((i : ℕ) → value_at map i ≡ (if key == i then Some v else None)) → new ≡ (if row == r then Some map else old)
      → value_of new q ≡ (if row == r && (key == q) then Some v else value_of old q)
  row_put row key r q v map old new none is put = here (row == r) refl put
    where
      here : (b : Bool) → (row == r) ≡ b → new ≡ (if b then Some map else old) → value_of new q ≡ (if b && (key == q) then Some v else value_of old q)
      here true e put = ap (λ o. value_of o q) put ∙ is q ∙ ap (λ o. if key == q then Some v else value_of o q) (sym (none (eqb-true row r e)))
      here false e put = ap (λ o. value_of o q) put
