-- The parts that a text is sent as are joined to the text.
use Rattle.std.proofs.Common.{◌≡◌, ℕ, ◌+◌, ◌<◌, ◌≤◌, zero, suc, List, [], ◌∷◌, ◌++◌, length, map, get_or, Some, None, refl, sym, ◌∙◌, ap, inl, inr, subst, arith}
use Rattle.std.proofs.lemmas.Bool.{cases_lt, cond-true, cond-false, le-leb, lt-leb, MatchBool-at_false}
use Rattle.std.proofs.lemmas.List.{append-nil, length-map}
use Rattle.std.proofs.lemmas.List.Elements.{All-from_recursion}
use Rattle.std.specs.List.{concat, flat_map, AllByRecursion}
use Rattle.sms_alphabet.specs.declared.coded.Coding.{Coding}
use Rattle.sms_alphabet.specs.declared.coded.Coded.{Coded}
use Rattle.sms_segment.specs.declared.part.Part.{Part}
use Rattle.sms_segment.specs.declared.place.Reference.{Reference}
use Rattle.sms_segment.specs.Group.{groups}
use Rattle.sms_segment.specs.Limits.{single_limit, part_limit}
use Rattle.sms_segment.specs.Cutting.{IsCutting, all_groups}
use Rattle.sms_segment.specs.Message.{IsFullyCut, numbered}
use Rattle.sms_segment.specs.Joining.{StandsAt, IsWhole, IsJoined}
use Rattle.sms_segment.proofs.Filling.{Group, concat-append}
use Rattle.sms_segment.proofs.Grouping.{concat-groups}

module _ (coding : Coding) (reference : Reference) (count : ℕ) where
  coding-numbered : (number : ℕ) (pieces : List (List ℕ)) → AllByRecursion (λ (part : Part). part.coding ≡ coding) (numbered coding reference count number pieces)
  coding-numbered number [] = tt
  coding-numbered number (piece ∷ pieces) = (refl, coding-numbered (number + 1) pieces)

  units-numbered : (number : ℕ) (pieces : List (List ℕ)) → flat_map (λ (part : Part). part.units) (numbered coding reference count number pieces) ≡ concat pieces
  units-numbered number [] = refl
  units-numbered number (piece ∷ pieces) = ap (λ l. piece ++ l) (units-numbered (number + 1) pieces)

  length-numbered : (number : ℕ) (pieces : List (List ℕ)) → length (numbered coding reference count number pieces) ≡ length pieces
  length-numbered number [] = refl
  length-numbered number (piece ∷ pieces) = ap (λ n. suc n) (length-numbered (number + 1) pieces)

  -- the part at k has the number that is k after the first
  places-numbered : (number : ℕ) (pieces : List (List ℕ)) (k : ℕ) (other : Part) → k < length pieces → StandsAt reference coding count (number + k) (get_or (numbered coding reference count number pieces) k other)
  places-numbered number [] k other inside = absurd (omega arith)
  places-numbered number (piece ∷ pieces) zero other inside =
      record { coding_is = refl; place_is = ap (λ n. Some (record { reference = reference; count = count; number = n })) (let same : number ≡ number + 0 = omega arith in same) }
  places-numbered number (piece ∷ pieces) (suc k) other inside =
      let same : number + 1 + k ≡ number + suc k = omega arith in
      subst (λ (n : ℕ). StandsAt reference coding count n (get_or (numbered coding reference count (number + 1) pieces) k other)) same
      (places-numbered (number + 1) pieces k other (omega arith))

-- the units of the parts, one part after another
concat-parts : (parts : List (List Group)) → concat (map concat parts) ≡ concat (all_groups parts)
concat-parts [] = refl
concat-parts (part ∷ parts) = ap (λ l. concat part ++ l) (concat-parts parts) ∙ sym (concat-append part (all_groups parts))

-- what is joined has one coding and one list of units
joined_once : (sent : List Part) (text joined : Coded) → 0 < length sent → IsJoined sent text → IsJoined sent joined → joined ≡ text
joined_once [] text joined some one two = absurd (omega arith)
joined_once (part ∷ sent) text joined some one two =
    let coding_is : joined.coding ≡ text.coding = sym (two.coding 0 part (omega arith)) ∙ one.coding 0 part (omega arith) in
    let units_are : joined.units ≡ text.units = two.units ∙ sym one.units in
    ap (λ c. record { coding = c; units = joined.units }) coding_is ∙ ap (λ u. record { coding = text.coding; units = u }) units_are

-- with a part there is no other text
and_no_other : (sent : List Part) (text : Coded) → 0 < length sent → IsWhole sent × IsJoined sent text → IsWhole sent × IsJoined sent text × ((joined : Coded) → IsJoined sent joined → joined ≡ text)
and_no_other sent text some is = (is.0, is.1, λ joined other. joined_once sent text joined some is.1 other)

some_whole : (sent : List Part) → IsWhole sent → 0 < length sent
some_whole sent (inl single) = rw single.1.alone (omega arith)
some_whole sent (inr (reference, coding, series)) = series.some

-- a text with a unit has a part
no_parts : (parts : List (List Group)) (units : List ℕ) (limit : ℕ) → length parts ≤ 0 → concat (map concat parts) ≡ units → limit < length units → ⊥
no_parts [] units limit none spelled long = absurd (omega (arith, ap length spelled))
no_parts (part ∷ parts) units limit none spelled long = absurd (omega arith)

module _ (text : Coded) (reference : Reference) where
  joins_short : (sent : List Part) → sent ≡ record { coding = text.coding; place = None; units = text.units } ∷ [] → IsWhole sent × IsJoined sent text
  joins_short sent is = rw is (
    inl (record { coding = text.coding; place = None; units = text.units }, record { alone = refl; no_place = refl }),
    record { coding = All-from_recursion (λ (part : Part). part.coding ≡ text.coding) (record { coding = text.coding; place = None; units = text.units } ∷ []) (refl, tt); units = sym (append-nil text.units) },
  )

  joins_long : (parts : List (List Group)) → single_limit text.coding < length text.units → IsCutting (part_limit reference text.coding) (groups text.coding text.units) parts → (sent : List Part) → sent ≡ numbered text.coding reference (length parts) 1 (map concat parts) → IsWhole sent × IsJoined sent text
  joins_long parts long cutting sent is =
      let spelled : concat (map concat parts) ≡ text.units = concat-parts parts ∙ ap concat cutting.whole ∙ concat-groups text.coding text.units in
      let count : length (numbered text.coding reference (length parts) 1 (map concat parts)) ≡ length parts = length-numbered text.coding reference (length parts) 1 (map concat parts) ∙ length-map parts concat in
      let some : 0 < length parts = elim (cases_lt 0 (length parts)) [ inl some ↦ some | inr none ↦ absurd (no_parts parts text.units (single_limit text.coding) none spelled long) ] in
      rw is (
        inr (
          reference,
          text.coding,
          record {
            some = omega arith;
            numbered = λ k other inside.
                let same : 1 + k ≡ k + 1 = omega arith in
                let inside_map : k < length (map concat parts) = omega (arith, length-map parts concat) in
                let here : StandsAt reference text.coding (length parts) (1 + k) (get_or (numbered text.coding reference (length parts) 1 (map concat parts)) k other) = places-numbered text.coding reference (length parts) 1 (map concat parts) k other inside_map in
                record { coding_is = here.coding_is; place_is = here.place_is ∙ ap (λ n. Some (record { reference = reference; count = length parts; number = n })) same ∙ ap (λ n. Some (record { reference = reference; count = n; number = k + 1 })) (sym count) };
          },
        ),
        record {
          coding = All-from_recursion (λ (part : Part). part.coding ≡ text.coding) _ (coding-numbered text.coding reference (length parts) 1 (map concat parts));
          units = sym (units-numbered text.coding reference (length parts) 1 (map concat parts) ∙ spelled);
        },
      )

  joined_back : (sent : List Part) → IsFullyCut text reference sent → IsWhole sent × IsJoined sent text
  joined_back sent cut =
      elim (cases_lt (single_limit text.coding) (length text.units)) [
        | inl long ↦
            joins_long cut.parts long
            (MatchBool-at_false (cut.parts ≡ groups text.coding text.units ∷ []) (IsCutting (part_limit reference text.coding) (groups text.coding text.units) cut.parts) (lt-leb _ _ long) cut.cutting)
            sent (cut.places ∙ cond-false _ _ _ (lt-leb _ _ long))
        | inr short ↦ joins_short sent (cut.places ∙ cond-true _ _ _ (le-leb _ _ short))
      ]

  pub joins_back : (sent : List Part) → IsFullyCut text reference sent → IsWhole sent × IsJoined sent text × ((joined : Coded) → IsJoined sent joined → joined ≡ text)
  joins_back sent cut =
      let is : IsWhole sent × IsJoined sent text = joined_back sent cut in
      and_no_other sent text (some_whole sent is.0) is
