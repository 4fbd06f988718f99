-- The full cutting of a text, short or long.
use Rattle.std.proofs.Common.{◌≡◌, ℕ, ◌+◌, ◌<◌, ◌≤◌, suc, List, [], ◌∷◌, ◌++◌, length, map, take, drop, Some, None, refl, sym, ◌∙◌, ap, inl, inr, arith, append_assoc}
use Rattle.std.proofs.lemmas.Bool.{cases_lt, cond-true, cond-false, le-leb, lt-leb, MatchBool-at_true, MatchBool-at_false}
use Rattle.std.proofs.lemmas.List.{length-map}
use Rattle.std.specs.List.{concat}
use Rattle.sms_alphabet.specs.declared.coded.Coding.{Coding}
use Rattle.sms_alphabet.specs.declared.coded.Coding.TheVariants.{Gsm, Ucs2}
use Rattle.sms_alphabet.specs.declared.coded.Coded.{Coded}
use Rattle.sms_segment.specs.declared.part.Part.{Part}
use Rattle.sms_segment.specs.declared.place.Reference.{Reference}
use Rattle.sms_segment.specs.declared.place.Reference.TheVariants.{Short, Long}
use Rattle.sms_segment.specs.Group.{groups}
use Rattle.sms_segment.specs.Front.{IsFront}
use Rattle.sms_segment.specs.Limits.{single_limit, part_limit}
use Rattle.sms_segment.specs.Cutting.{IsCutting, IsFull, full_cutting}
use Rattle.sms_segment.specs.Message.{IsTextCutting, IsFullyCut, numbered, laid_out, text_parts, parts_of}
use Rattle.sms_segment.proofs.Filling.{Group}
use Rattle.sms_segment.proofs.Least.{cutting-full_cutting, full-full_cutting, least, only, some-full_cutting}
use Rattle.sms_segment.proofs.Grouping.{concat-groups, short-groups, some-first_group}
use Rattle.sms_segment.proofs.FrontLemmas.{full_cutting-front}

-- a pair fits into a part
pub pair_fits : (reference : Reference) (coding : Coding) → 2 ≤ part_limit reference coding
pair_fits (Short number) Gsm = omega arith
pair_fits (Short number) Ucs2 = omega arith
pair_fits (Long number) Gsm = omega arith
pair_fits (Long number) Ucs2 = omega arith

module _ (text : Coded) (reference : Reference) where
  text_parts-short : length text.units ≤ single_limit text.coding → text_parts text reference ≡ groups text.coding text.units ∷ []
  text_parts-short short = cond-true _ _ _ (le-leb _ _ short)

  pub text_parts-long : single_limit text.coding < length text.units → text_parts text reference ≡ full_cutting (part_limit reference text.coding) (groups text.coding text.units)
  text_parts-long long = cond-false _ _ _ (lt-leb _ _ long)

  pub parts_of-short : length text.units ≤ single_limit text.coding → parts_of text reference ≡ record { coding = text.coding; place = None; units = text.units } ∷ []
  unfolding parts_of
  parts_of-short short = cond-true _ _ _ (le-leb _ _ short)

  laid_out-long : single_limit text.coding < length text.units → (parts : List (List Group)) → laid_out text reference parts ≡ numbered text.coding reference (length parts) 1 (map concat parts)
  laid_out-long long parts = cond-false _ _ _ (lt-leb _ _ long)

  pub parts_of-long : single_limit text.coding < length text.units → parts_of text reference ≡ numbered text.coding reference (length (full_cutting (part_limit reference text.coding) (groups text.coding text.units))) 1 (map concat (full_cutting (part_limit reference text.coding) (groups text.coding text.units)))
  unfolding parts_of
  parts_of-long long = laid_out-long long (text_parts text reference) ∙ ap (λ parts. numbered text.coding reference (length parts) 1 (map concat parts)) (text_parts-long long)

  pub text_cutting : IsTextCutting text reference (text_parts text reference)
  text_cutting =
      elim (cases_lt (single_limit text.coding) (length text.units)) [
        | inl long ↦ rw (lt-leb _ _ long) (cutting-full_cutting _ _ (short-groups text.coding _ (pair_fits reference text.coding) text.units))
        | inr short ↦ rw (le-leb _ _ short) refl
      ]

  pub text_full : IsFull (part_limit reference text.coding) (text_parts text reference)
  text_full =
      elim (cases_lt (single_limit text.coding) (length text.units)) [
        | inl long ↦ rw (text_parts-long long) (full-full_cutting (part_limit reference text.coding) (groups text.coding text.units))
        | inr short ↦ rw (text_parts-short short) (tt, tt)
      ]

  -- what a text is sent as
  pub fully_cut : IsFullyCut text reference (parts_of text reference)
  unfolding parts_of
  fully_cut = record { parts = text_parts text reference; cutting = text_cutting; full = text_full; places = refl }

  pub text_least : (other : List (List Group)) → IsTextCutting text reference other → length (text_parts text reference) ≤ length other
  text_least other cutting =
      elim (cases_lt (single_limit text.coding) (length text.units)) [
        | inl long ↦ rw (text_parts-long long) (least _ _ other (MatchBool-at_false (other ≡ groups text.coding text.units ∷ []) (IsCutting (part_limit reference text.coding) (groups text.coding text.units) other) (lt-leb _ _ long) cutting))
        | inr short ↦ rw (text_parts-short short, MatchBool-at_true (other ≡ groups text.coding text.units ∷ []) (IsCutting (part_limit reference text.coding) (groups text.coding text.units) other) (le-leb _ _ short) cutting) (omega arith)
      ]

  pub text_only : (parts : List (List Group)) → IsTextCutting text reference parts → IsFull (part_limit reference text.coding) parts → text_parts text reference ≡ parts
  text_only parts cutting full =
      elim (cases_lt (single_limit text.coding) (length text.units)) [
        | inl long ↦ text_parts-long long ∙ only _ _ parts (MatchBool-at_false (parts ≡ groups text.coding text.units ∷ []) (IsCutting (part_limit reference text.coding) (groups text.coding text.units) parts) (lt-leb _ _ long) cutting) full
        | inr short ↦ text_parts-short short ∙ sym (MatchBool-at_true (parts ≡ groups text.coding text.units ∷ []) (IsCutting (part_limit reference text.coding) (groups text.coding text.units) parts) (le-leb _ _ short) cutting)
      ]

  -- a text with a cutting of 255 parts is not too long
  pub not_too_long : length (text_parts text reference) ≤ 255 → ((other : List (List Group)) → IsTextCutting text reference other → 255 < length other) → ⊥
  not_too_long few each = absurd (omega (arith, each (text_parts text reference) text_cutting))

  pub short_is_not_too_long : length text.units ≤ single_limit text.coding → ((other : List (List Group)) → IsTextCutting text reference other → 255 < length other) → ⊥
  short_is_not_too_long short each = not_too_long (rw (text_parts-short short) (omega arith)) each

  pub too_long : 255 < length (text_parts text reference) → (other : List (List Group)) → IsTextCutting text reference other → 255 < length other
  too_long many other cutting = omega (arith, text_least other cutting)

  length-numbered : (count number : ℕ) (pieces : List (List ℕ)) → length (numbered text.coding reference count number pieces) ≡ length pieces
  length-numbered count number [] = refl
  length-numbered count number (units ∷ pieces) = ap (λ n. suc n) (length-numbered count (number + 1) pieces)

  pub length-parts_of : length (parts_of text reference) ≡ length (text_parts text reference)
  unfolding parts_of
  length-parts_of =
      elim (cases_lt (single_limit text.coding) (length text.units)) [
        | inl long ↦ ap length (laid_out-long long (text_parts text reference)) ∙ length-numbered _ _ _ ∙ length-map (text_parts text reference) concat
        | inr short ↦ ap length (parts_of-short short) ∙ sym (ap length (text_parts-short short))
      ]

  -- nothing else is fully cut
  pub parts_of-fully_cut : (sent : List Part) → IsFullyCut text reference sent → sent ≡ parts_of text reference
  unfolding parts_of
  parts_of-fully_cut sent cut = cut.places ∙ ap (laid_out text reference) (sym (text_only cut.parts cut.cutting cut.full))

  pub too_long-parts : ((other : List (List Group)) → IsTextCutting text reference other → 255 < length other) → 255 < length (parts_of text reference)
  too_long-parts each = rw length-parts_of (each (text_parts text reference) text_cutting)

-- a text with a part left has a unit left
pub some_left : (coding : Coding) (limit : ℕ) (units : List ℕ) → 0 < length (full_cutting limit (groups coding units)) → 0 < length units
some_left coding limit [] some = some
some_left coding limit (x ∷ units) some = omega arith

-- and a text with a unit left has a part left
pub some_parts : (coding : Coding) (limit : ℕ) (units : List ℕ) → 0 < length units → 0 < length (full_cutting limit (groups coding units))
some_parts coding limit [] some = absurd (omega arith)
some_parts coding limit (x ∷ units) some = some-full_cutting limit (groups coding (x ∷ units)) (some-first_group coding x units)

pub parts_left : (coding : Coding) (limit : ℕ) (units : List ℕ) (count : ℕ) → 0 < length units → IsFront coding limit units count → length (full_cutting limit (groups coding units)) ≡ 1 + length (full_cutting limit (groups coding (drop count units)))
parts_left coding limit units count some front = ap length (full_cutting-front coding limit units count some front) ∙ omega arith

module _ (coding : Coding) (reference : Reference) (count limit : ℕ) where
  -- the part with this number of the units `front`
  abbrev part_of : ℕ → List ℕ → Part
  part_of number front = record { coding = coding; place = Some (record { reference = reference; count = count; number = number }); units = front }

  -- the next part, and those of the rest
  pub numbered-front : (number : ℕ) (units : List ℕ) (taken : ℕ) → 0 < length units → IsFront coding limit units taken → numbered coding reference count number (map concat (full_cutting limit (groups coding units))) ≡ record { coding = coding; place = Some (record { reference = reference; count = count; number = number }); units = take taken units } ∷ numbered coding reference count (number + 1) (map concat (full_cutting limit (groups coding (drop taken units))))
  numbered-front number units taken some front =
      ap (λ parts. numbered coding reference count number (map concat parts)) (full_cutting-front coding limit units taken some front)
      ∙ ap (λ piece. part_of number piece ∷ numbered coding reference count (number + 1) (map concat (full_cutting limit (groups coding (drop taken units))))) (concat-groups coding (take taken units))

  -- one part made: the parts so far, the next and those of the rest
  pub numbered-step : (all : List Part) (parts more : List Part) (units front back : List ℕ) (taken before : ℕ) → 0 < length units → IsFront coding limit units taken → front ≡ take taken units → back ≡ drop taken units → all ≡ parts ++ numbered coding reference count (before + 1) (map concat (full_cutting limit (groups coding units))) → more ≡ parts ++ record { coding = coding; place = Some (record { reference = reference; count = count; number = before + 1 }); units = front } ∷ [] → all ≡ more ++ numbered coding reference count (before + 1 + 1) (map concat (full_cutting limit (groups coding back)))
  numbered-step all parts more units front back taken before some is_front front_is back_is so_far pushed =
      so_far
      ∙ ap (λ l. parts ++ l) (numbered-front (before + 1) units taken some is_front)
      ∙ rw (pushed, front_is, back_is) (sym (append_assoc parts (part_of (before + 1) (take taken units) ∷ []) (numbered coding reference count (before + 1 + 1) (map concat (full_cutting limit (groups coding (drop taken units)))))))

-- the parts made of a long text are what it is sent as
pub parts_of-count : (text : Coded) (reference : Reference) (count : ℕ) → single_limit text.coding < length text.units → length (full_cutting (part_limit reference text.coding) (groups text.coding text.units)) ≡ count → numbered text.coding reference count 1 (map concat (full_cutting (part_limit reference text.coding) (groups text.coding text.units))) ≡ parts_of text reference
parts_of-count text reference count long same =
    ap (λ n. numbered text.coding reference n 1 (map concat (full_cutting (part_limit reference text.coding) (groups text.coding text.units)))) (sym same)
    ∙ sym (parts_of-long text reference long)

-- how many parts a long text has
pub length-text_parts : (text : Coded) (reference : Reference) (limit : ℕ) (units : List ℕ) → single_limit text.coding < length text.units → limit ≡ part_limit reference text.coding → units ≡ text.units → length (text_parts text reference) ≡ length (full_cutting limit (groups text.coding units))
length-text_parts text reference limit units long limit_is units_are =
    ap length (text_parts-long text reference long) ∙ rw (limit_is, units_are) refl

-- a text is sent as one part at least
pub some-parts_of : (text : Coded) (reference : Reference) → 0 < length (parts_of text reference)
some-parts_of text reference =
    elim (cases_lt (single_limit text.coding) (length text.units)) [
      | inl long ↦
          let left : 0 < length text.units = omega arith in
          let parts = some_parts text.coding (part_limit reference text.coding) text.units left in
          rw (length-parts_of text reference, text_parts-long text reference long) parts
      | inr short ↦ rw (parts_of-short text reference short) (omega arith)
    ]
