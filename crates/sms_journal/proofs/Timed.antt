-- Notes that are read from the last to the first, with their times.
use Rattle.std.proofs.Common.{◌≡◌, ◌∙◌, ◌≤◌, ◌<◌, ℕ, zero, suc, ◌+◌, min, List, [], ◌∷◌, length, drop, get_or, None, refl, ap, arith}
use Rattle.sms_files.proofs.Lists.{drop_step}
use Rattle.sms_journal.specs.declared.notes.note.Note.{Note}
use Rattle.sms_journal.specs.Moments.{answer_by, answer_in, answer_to, last_moments, moments_in}
use Rattle.sms_journal.specs.Recovered.{or_else}

-- where there are no more, they say nothing
pub no_answer : (w n : ℕ) (ts : List ℕ) (ns : List Note) (i : ℕ) → min (length ts) (length ns) ≤ i → answer_in w n (drop i ts) (drop i ns) ≡ None
no_answer w n [] ns zero h = refl
no_answer w n [] ns (suc i) h = refl
no_answer w n (t ∷ ts) [] zero h = refl
no_answer w n (t ∷ ts) [] (suc i) h = none (drop i ts)
  where
    none : (xs : List ℕ) → answer_in w n xs [] ≡ None
    none [] = refl
    none (x ∷ xs) = refl
no_answer w n (t ∷ ts) (x ∷ ns) zero h = absurd (omega (arith, h))
no_answer w n (t ∷ ts) (x ∷ ns) (suc i) h = no_answer w n ts ns i (omega (arith, h))

pub no_last : (m p : ℕ) (ts : List ℕ) (ns : List Note) (i : ℕ) → min (length ts) (length ns) ≤ i → last_moments m p (drop i ts) (drop i ns) ≡ None
no_last m p [] ns zero h = refl
no_last m p [] ns (suc i) h = refl
no_last m p (t ∷ ts) [] zero h = refl
no_last m p (t ∷ ts) [] (suc i) h = none (drop i ts)
  where
    none : (xs : List ℕ) → last_moments m p xs [] ≡ None
    none [] = refl
    none (x ∷ xs) = refl
no_last m p (t ∷ ts) (x ∷ ns) zero h = absurd (omega (arith, h))
no_last m p (t ∷ ts) (x ∷ ns) (suc i) h = no_last m p ts ns i (omega (arith, h))

-- one before them
pub answer_before : (w n : ℕ) (ts : List ℕ) (ns : List Note) (i t : ℕ) (x : Note) → i < length ts → i < length ns → t ≡ get_or ts i t → x ≡ get_or ns i x
    → answer_in w n (drop i ts) (drop i ns) ≡ answer_by w n t x (answer_in w n (drop (i + 1) ts) (drop (i + 1) ns))
answer_before w n ts ns i t x low lower is its = ap (λ (l : List ℕ). answer_in w n l (drop i ns)) (drop_step ts i t low is) ∙ ap (answer_in w n (t ∷ drop (i + 1) ts)) (drop_step ns i x lower its)

pub last_before : (m p : ℕ) (ts : List ℕ) (ns : List Note) (i t : ℕ) (x : Note) → i < length ts → i < length ns → t ≡ get_or ts i t → x ≡ get_or ns i x
    → last_moments m p (drop i ts) (drop i ns) ≡ or_else (last_moments m p (drop (i + 1) ts) (drop (i + 1) ns)) (moments_in (answer_to (drop (i + 1) ts) (drop (i + 1) ns) x) m p t x)
last_before m p ts ns i t x low lower is its = ap (λ (l : List ℕ). last_moments m p l (drop i ns)) (drop_step ts i t low is) ∙ ap (last_moments m p (t ∷ drop (i + 1) ts)) (drop_step ns i x lower its)
