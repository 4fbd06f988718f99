-- How many octets the parts of a text have, and that their units are septets where the text's are.
use Rattle.std.proofs.Common.{◌≡◌, ℕ, ◌+◌, ◌<◌, ◌≤◌, List, [], ◌∷◌, ◌++◌, length, map, Some, None, sym, ◌∙◌, inl, inr, subst, arith}
use Rattle.std.proofs.lemmas.Bool.{cases_lt, cond-true, cond-false, le-leb, lt-leb, MatchBool-at_false}
use Rattle.std.proofs.lemmas.List.Elements.{recursion_from_All, All-from_recursion}
use Rattle.std.specs.List.{concat, flat_map, All, AllByRecursion}
use Rattle.sms_alphabet.specs.declared.coded.Coding.{Coding}
use Rattle.sms_alphabet.specs.declared.coded.Coding.TheVariants.{Gsm, Ucs2}
use Rattle.sms_alphabet.specs.declared.coded.Coded.{Coded}
use Rattle.sms_alphabet.specs.Spelling.{IsLawful}
use Rattle.sms_alphabet.proofs.Lawful.{units_fit}
use Rattle.sms_segment.specs.declared.part.Part.{Part}
use Rattle.sms_segment.specs.declared.place.Reference.{Reference}
use Rattle.sms_segment.specs.declared.place.Reference.TheVariants.{Short, Long}
use Rattle.sms_segment.specs.Group.{groups}
use Rattle.sms_segment.specs.Limits.{single_limit, part_limit}
use Rattle.sms_segment.specs.Cutting.{IsCutting, size}
use Rattle.sms_segment.specs.Message.{IsFullyCut, numbered}
use Rattle.sms_segment.specs.Part.{HasSeptets, short_message}
use Rattle.sms_segment.proofs.Filling.{Group}
use Rattle.sms_segment.proofs.PartLemmas.{length-short_message, length-septets, length-big_endian}
use Rattle.sms_segment.proofs.JoinLemmas.{joins_back}

-- a text that is sent whole
single-fits : (coding : Coding) (units : List ℕ) → length units ≤ single_limit coding → length (short_message (record { coding = coding; place = None; units = units })) ≤ 160
single-fits Gsm units few =
    let all = length-short_message (record { coding = Gsm; place = None; units = units }) in
    let octets = length-septets units in
    omega arith
single-fits Ucs2 units few =
    let all = length-short_message (record { coding = Ucs2; place = None; units = units }) in
    let octets = length-big_endian units in
    omega arith

-- a part behind a header
part-fits : (reference : Reference) (coding : Coding) (count number : ℕ) (units : List ℕ) → length units ≤ part_limit reference coding
    → length (short_message (record { coding = coding; place = Some (record { reference = reference; count = count; number = number }); units = units })) ≤ 160
part-fits (Short n) Gsm count number units few =
    let all = length-short_message (record { coding = Gsm; place = Some (record { reference = Short n; count = count; number = number }); units = units }) in
    let octets = length-septets units in
    omega arith
part-fits (Short n) Ucs2 count number units few =
    let all = length-short_message (record { coding = Ucs2; place = Some (record { reference = Short n; count = count; number = number }); units = units }) in
    let octets = length-big_endian units in
    omega arith
part-fits (Long n) Gsm count number units few =
    let all = length-short_message (record { coding = Gsm; place = Some (record { reference = Long n; count = count; number = number }); units = units }) in
    let octets = length-septets units in
    omega arith
part-fits (Long n) Ucs2 count number units few =
    let all = length-short_message (record { coding = Ucs2; place = Some (record { reference = Long n; count = count; number = number }); units = units }) in
    let octets = length-big_endian units in
    omega arith

abbrev Fits : Part → Type 0
Fits part = length (short_message part) ≤ 160

numbered-fit : (reference : Reference) (coding : Coding) (count number : ℕ) (parts : List (List Group)) → AllByRecursion (λ part. size part ≤ part_limit reference coding) parts
    → AllByRecursion Fits (numbered coding reference count number (map concat parts))
numbered-fit reference coding count number [] few = tt
numbered-fit reference coding count number (part ∷ parts) few = (part-fits reference coding count number (concat part) few.0, numbered-fit reference coding count (number + 1) parts few.1)

pub parts_fit : (text : Coded) (reference : Reference) (sent : List Part) → IsFullyCut text reference sent → All (λ part. length (short_message part) ≤ 160) sent
parts_fit text reference sent cut =
    elim (cases_lt (single_limit text.coding) (length text.units)) [
      | inl long ↦
          let cutting : IsCutting (part_limit reference text.coding) (groups text.coding text.units) cut.parts = MatchBool-at_false (cut.parts ≡ groups text.coding text.units ∷ []) (IsCutting (part_limit reference text.coding) (groups text.coding text.units) cut.parts) (lt-leb _ _ long) cut.cutting in
          let places : sent ≡ numbered text.coding reference (length cut.parts) 1 (map concat cut.parts) = cut.places ∙ cond-false _ _ _ (lt-leb _ _ long) in
          rw places (All-from_recursion Fits (numbered text.coding reference (length cut.parts) 1 (map concat cut.parts)) (numbered-fit reference text.coding (length cut.parts) 1 cut.parts (recursion_from_All (λ part. size part ≤ part_limit reference text.coding) cut.parts cutting.within)))
      | inr short ↦
          let places : sent ≡ record { coding = text.coding; place = None; units = text.units } ∷ [] = cut.places ∙ cond-true _ _ _ (le-leb _ _ short) in
          rw places (All-from_recursion Fits (record { coding = text.coding; place = None; units = text.units } ∷ []) (single-fits text.coding text.units short, tt))
    ]

abbrev Septet : ℕ → Type 0
Septet unit = unit < 128

front-septets : (xs ys : List ℕ) → AllByRecursion Septet (xs ++ ys) → AllByRecursion (λ unit. unit ≤ 127) xs
front-septets [] ys all = tt
front-septets (x ∷ xs) ys all = (let small : x < 128 = all.0 in omega arith, front-septets xs ys all.1)

back-septets : (xs ys : List ℕ) → AllByRecursion Septet (xs ++ ys) → AllByRecursion Septet ys
back-septets [] ys all = all
back-septets (x ∷ xs) ys all = back-septets xs ys all.1

each-part : (parts : List Part) → AllByRecursion Septet (flat_map (λ (part : Part). part.units) parts) → AllByRecursion (λ (part : Part). All (λ unit. unit ≤ 127) part.units) parts
each-part [] all = tt
each-part (part ∷ parts) all = (
  All-from_recursion (λ unit. unit ≤ 127) part.units (front-septets part.units (flat_map (λ (p : Part). p.units) parts) all),
  each-part parts (back-septets part.units (flat_map (λ (p : Part). p.units) parts) all),
)

pub parts_have_septets : (text : Coded) (reference : Reference) (sent : List Part) → IsLawful text → IsFullyCut text reference sent → All HasSeptets sent
parts_have_septets text reference sent lawful cut k other inside gsm =
    let joined = (joins_back text reference sent cut).1 in
    let text_gsm : text.coding ≡ Gsm = sym (joined.coding k other inside) ∙ gsm in
    let all : AllByRecursion Septet text.units = recursion_from_All Septet text.units ((units_fit text lawful).0 text_gsm) in
    All-from_recursion (λ (part : Part). All (λ unit. unit ≤ 127) part.units) sent (each-part sent (subst (λ (units : List ℕ). AllByRecursion Septet units) joined.units all)) k other inside
