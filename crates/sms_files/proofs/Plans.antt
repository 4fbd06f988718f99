-- A text's parts, as the plan tells them.
use Rattle.std.proofs.Common.{◌≡◌, ◌≤◌, ◌<◌, ◌∙◌, refl, ap, ℕ, List, ◌++◌, length, codes, Result, Ok, Err}
use Rattle.std.specs.Prelude.{OnOk, is_ok, if◌then◌else◌}
use Rattle.std.proofs.lemmas.Bool.{le-leb, lt-leb}
use Rattle.sms_alphabet.specs.declared.coded.Coded.{Coded}
use Rattle.sms_segment.specs.declared.part.Part.{Part}
use Rattle.sms_segment.specs.declared.place.Reference.{Reference}
use Rattle.sms_segment.specs.Message.{parts_of}
use Rattle.sms_files.specs.PlanText.{counted_text, cutting_text}

-- what was pushed, if it was
pub pushed : {T E : Type 0} (r : Result T E) (new old s t : List ℕ) → new ≡ (if is_ok r then (old ++ s) else old) → s ≡ t → OnOk r (new ≡ old ++ t)
pushed (Ok x) new old s t h e = h ∙ ap (λ (k : List ℕ). old ++ k) e
pushed (Err x) new old s t h e = tt

-- a text that can be cut
pub cut-short : (reference : Reference) (coded : Coded) (parts : List Part) → parts ≡ parts_of coded reference → length parts ≤ 255
    → counted_text parts ≡ cutting_text reference coded
cut-short reference coded parts same few =
    let fits : length (parts_of coded reference) ≤ 255 = rw same at few in
    rw (same, le-leb _ _ fits) refl

-- and one that is too long
pub cut-long : (reference : Reference) (coded : Coded) → 255 < length (parts_of coded reference)
    → codes "0,too-long" ≡ cutting_text reference coded
cut-long reference coded long = rw (lt-leb _ _ long) refl
