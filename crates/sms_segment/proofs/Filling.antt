-- Filling one part after another, as far as whole groups fit: it is a cutting, it is full, no full cutting
-- differs from it, and no cutting has fewer parts.
use Rattle.std.proofs.Common.{◌≡◌, ℕ, ◌+◌, ◌<◌, ◌≤◌, List, [], ◌∷◌, ◌++◌, length, refl, sym, ◌∙◌, ap, inl, inr, arith, append_assoc, length-append}
use Rattle.std.proofs.lemmas.Bool.{cases_lt, cond-true, cond-false, le-leb, lt-leb}
use Rattle.std.proofs.lemmas.List.{append-nil}
use Rattle.std.specs.List.{concat, AllByRecursion}
use Rattle.sms_segment.specs.Cutting.{size, all_groups, HasNoRoom, IsFull, filled, full_cutting}

abbrev pub Group : Type 0
Group = List ℕ

pub concat-append : (xs ys : List Group) → concat (xs ++ ys) ≡ concat xs ++ concat ys
concat-append [] ys = refl
concat-append (x ∷ xs) ys = rw (concat-append xs ys) (sym (append_assoc x (concat xs) (concat ys)))

pub size-append : (xs ys : List Group) → size (xs ++ ys) ≡ size xs + size ys
size-append xs ys = ap length (concat-append xs ys) ∙ length-append (concat xs) (concat ys)

pub size-push : (xs : List Group) (g : Group) → size (xs ++ g ∷ []) ≡ size xs + length g
size-push xs g = size-append xs (g ∷ []) ∙ ap (λ n. size xs + n) (ap length (append-nil g))

pub size-cons : (g : Group) (gs : List Group) → size (g ∷ gs) ≡ length g + size gs
size-cons g gs = length-append g (concat gs)

-- the next group fits
pub filled-fits : (limit : ℕ) (part : List Group) (g : Group) (gs : List Group) → size part + length g ≤ limit → filled limit part (g ∷ gs) ≡ filled limit (part ++ g ∷ []) gs
filled-fits limit part g gs fits = cond-true _ _ _ (le-leb _ _ fits)

-- the next group does not fit
pub filled-breaks : (limit : ℕ) (part : List Group) (g : Group) (gs : List Group) → limit < size part + length g → filled limit part (g ∷ gs) ≡ part ∷ filled limit (g ∷ []) gs
filled-breaks limit part g gs over = cond-false _ _ _ (lt-leb _ _ over)

-- nothing is lost, added or moved
pub all_groups-filled : (limit : ℕ) (part gs : List Group) → all_groups (filled limit part gs) ≡ part ++ gs
all_groups-filled limit part [] = refl
all_groups-filled limit part (g ∷ gs) =
    elim (cases_lt limit (size part + length g)) [
      | inl over ↦ rw (filled-breaks limit part g gs over) (ap (λ x. part ++ x) (all_groups-filled limit (g ∷ []) gs))
      | inr fits ↦ rw (filled-fits limit part g gs fits) (all_groups-filled limit (part ++ g ∷ []) gs ∙ append_assoc part (g ∷ []) gs)
    ]

-- no part is above the limit
pub within-filled : (limit : ℕ) (part gs : List Group) → size part ≤ limit → AllByRecursion (λ g. length g ≤ limit) gs → AllByRecursion (λ p. size p ≤ limit) (filled limit part gs)
within-filled limit part [] small each = (small, tt)
within-filled limit part (g ∷ gs) small each =
    elim (cases_lt limit (size part + length g)) [
      | inl over ↦ rw (filled-breaks limit part g gs over) (small, within-filled limit (g ∷ []) gs (omega (arith, size-push [] g, each.0)) each.1)
      | inr fits ↦ rw (filled-fits limit part g gs fits) (within-filled limit (part ++ g ∷ []) gs (omega (arith, size-push part g)) each.1)
    ]

-- no part is empty
pub none_empty-filled : (limit : ℕ) (part gs : List Group) → 0 < length part → AllByRecursion (λ p. 0 < length p) (filled limit part gs)
none_empty-filled limit part [] some = (some, tt)
none_empty-filled limit part (g ∷ gs) some =
    elim (cases_lt limit (size part + length g)) [
      | inl over ↦ rw (filled-breaks limit part g gs over) (some, none_empty-filled limit (g ∷ []) gs (omega arith))
      | inr fits ↦ rw (filled-fits limit part g gs fits) (none_empty-filled limit (part ++ g ∷ []) gs (omega (arith, length-append part (g ∷ []))))
    ]

-- where the first group of what follows does not fit, what follows leaves no room
no_room-filled : (limit : ℕ) (before : List Group) (h : Group) (part gs : List Group) → limit < size before + length h → HasNoRoom limit before (filled limit (h ∷ part) gs)
no_room-filled limit before h part [] over = over
no_room-filled limit before h part (g ∷ gs) over =
    elim (cases_lt limit (size (h ∷ part) + length g)) [
      | inl breaks ↦ rw (filled-breaks limit (h ∷ part) g gs breaks) over
      | inr fits ↦ rw (filled-fits limit (h ∷ part) g gs fits) (no_room-filled limit before h (part ++ g ∷ []) gs over)
    ]

pub full-filled : (limit : ℕ) (part gs : List Group) → IsFull limit (filled limit part gs)
full-filled limit part [] = (tt, tt)
full-filled limit part (g ∷ gs) =
    elim (cases_lt limit (size part + length g)) [
      | inl over ↦ rw (filled-breaks limit part g gs over) (no_room-filled limit part g [] gs over, full-filled limit (g ∷ []) gs)
      | inr fits ↦ rw (filled-fits limit part g gs fits) (full-filled limit (part ++ g ∷ []) gs)
    ]

-- groups that fit all go into the part
pub filled-append : (limit : ℕ) (part gs hs : List Group) → size part + size gs ≤ limit → filled limit part (gs ++ hs) ≡ filled limit (part ++ gs) hs
filled-append limit part [] hs fits = rw (append-nil part) refl
filled-append limit part (g ∷ gs) hs fits =
    let fits_one : size part + length g ≤ limit = omega (arith, size-cons g gs) in
    let fits_rest : size (part ++ g ∷ []) + size gs ≤ limit = omega (arith, size-cons g gs, size-push part g) in
    filled-fits limit part g (gs ++ hs) fits_one ∙ filled-append limit (part ++ g ∷ []) gs hs fits_rest ∙ ap (λ x. filled limit x hs) (append_assoc part (g ∷ []) gs)

-- a part that is full, and what follows
pub filled-full : (limit : ℕ) (part : List Group) (h : Group) (hs : List Group) → limit < size part + length h → filled limit part (h ∷ hs) ≡ part ∷ full_cutting limit (h ∷ hs)
filled-full limit part h hs over = filled-breaks limit part h hs over
