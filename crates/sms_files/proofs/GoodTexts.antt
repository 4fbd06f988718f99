-- The texts of a script, good and bad.
use Rattle.std.proofs.Common.{◌≡◌, ◌≢◌, ◌<◌, ℕ, zero, suc, List, [], ◌∷◌, length, map, Some, None, Bool, true, false, refl, arith, String, Global, string_bytes}
use Rattle.std.specs.Prelude.{slice_index_or, is_some}
use Rattle.sms_centre.specs.declared.treatment.Treatment.{Treatment}
use Rattle.sms_centre.specs.Texts.{IsFirstBad, SayAll, treatment_of}
use Rattle.sms_files.specs.Config.{are_answers, some_answers}

one_said : (text : List ℕ) (texts : List (List ℕ)) (t : Treatment) → treatment_of text ≡ Some t → are_answers texts ≡ true → are_answers (text ∷ texts) ≡ true
one_said text texts t e rest = rw (e, rest) refl

pub all_said : (l : List (List ℕ)) (ts : List Treatment) → SayAll l ts → are_answers l ≡ true
all_said [] ts h = refl
all_said (x ∷ xs) [] h = cc
all_said (x ∷ xs) (t ∷ ts) h =
    let head : treatment_of x ≡ Some t = cc in
    let tail : map treatment_of xs ≡ map Some ts = cc in
    one_said x xs t head (all_said xs ts tail)

pub answers_good : (l : List (List ℕ)) → are_answers l ≡ true → l ≢ [] → some_answers l ≡ Some l
answers_good [] good some = absurd (some refl)
answers_good (x ∷ xs) good some = rw good refl

not_all : (l : List (List ℕ)) (place : ℕ) → place < length l → treatment_of (slice_index_or l place []) ≡ None → are_answers l ≡ false
not_all [] place low e = absurd (omega arith)
not_all (x ∷ xs) zero low e = rw e refl
not_all (x ∷ xs) (suc place) low e = by (is_some (treatment_of x)) refl (not_all xs place (omega arith) e)
  where
    by : (b : Bool) → is_some (treatment_of x) ≡ b → are_answers xs ≡ false → are_answers (x ∷ xs) ≡ false
    by true h rest = rw (h, rest) refl
    by false h rest = rw h refl

pub answers_bad : (l : List (List ℕ)) (place : ℕ) → IsFirstBad l place → some_answers l ≡ None
answers_bad [] place bad = refl
answers_bad (x ∷ xs) place bad = rw (not_all (x ∷ xs) place bad.there bad.bad) refl

pub map_none : (l : List (String Global)) → map string_bytes l ≡ [] → l ≡ []
map_none [] e = refl
map_none (x ∷ xs) e = cc

-- none of a script's texts is bad
pub none_bad : (l : List (List ℕ)) → are_answers l ≡ true → (place : ℕ) → IsFirstBad l place → ⊥
none_bad l good place bad =
    let wrong : are_answers l ≡ false = not_all l place bad.there bad.bad in
    cc
