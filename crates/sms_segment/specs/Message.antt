-- The parts of a coded text (3GPP TS 23.040 9.2.3.24 and 9.2.3.24.1).
use Rattle.std.specs.Prelude.{ℕ, ◌≡◌, ◌≤◌, ◌<◌, ◌+◌, nat_le, List, [], ◌∷◌, length, map, Some, None, MatchBool, if◌then◌else◌}
use Rattle.std.specs.List.{concat}
use Rattle.sms_alphabet.specs.declared.coded.Coding.{Coding}
use Rattle.sms_alphabet.specs.declared.coded.Coded.{Coded}
use Rattle.sms_segment.specs.declared.part.Part.{Part}
use Rattle.sms_segment.specs.declared.place.Reference.{Reference}
use Rattle.sms_segment.specs.Group.{groups}
use Rattle.sms_segment.specs.Limits.{single_limit, part_limit}
use Rattle.sms_segment.specs.Cutting.{IsCutting, IsFull, full_cutting}

-- A text that a short message can carry whole has one cutting: the one part of all its groups.
abbrev pub IsTextCutting : Coded → Reference → List (List (List ℕ)) → Type 0
IsTextCutting text reference parts =
    MatchBool (nat_le (length text.units) (single_limit text.coding))
    (parts ≡ groups text.coding text.units ∷ [])
    (IsCutting (part_limit reference text.coding) (groups text.coding text.units) parts)

-- The parts with their places: the reference, their count, and the numbers from `number` on.
abbrev pub numbered : Coding → Reference → ℕ → ℕ → List (List ℕ) → List Part
numbered coding reference count number [] = []
numbered coding reference count number (units ∷ rest) =
    record { coding = coding; place = Some (record { reference = reference; count = count; number = number }); units = units }
    ∷ numbered coding reference count (number + 1) rest

-- a text that is sent whole is one part without a place
abbrev pub whole : Coded → Part
whole text = record { coding = text.coding; place = None; units = text.units }

abbrev pub laid_out : Coded → Reference → List (List (List ℕ)) → List Part
laid_out text reference parts =
    if nat_le (length text.units) (single_limit text.coding)
    then (whole text ∷ [])
    else numbered text.coding reference (length parts) 1 (map concat parts)

-- What a text is sent as: a full cutting of it, each part with its place.
pub record IsFullyCut (text : Coded) (reference : Reference) (sent : List Part) : Type 0 where
  pub parts : List (List (List ℕ))
  pub cutting : IsTextCutting text reference parts
  pub full : IsFull (part_limit reference text.coding) parts
  pub places : sent ≡ laid_out text reference parts

-- no cutting of the text has fewer parts
abbrev pub IsLeast : Coded → Reference → List Part → Type 0
IsLeast text reference sent = (other : List (List (List ℕ))) → IsTextCutting text reference other → length sent ≤ length other

-- each cutting of the text has more parts than a header can count
abbrev pub IsTooLong : Coded → Reference → Type 0
IsTooLong text reference = (other : List (List (List ℕ))) → IsTextCutting text reference other → 255 < length other

-- the full cutting of units into parts with a header
abbrev pub full_parts : Coding → ℕ → List ℕ → List (List (List ℕ))
full_parts coding limit units = full_cutting limit (groups coding units)

-- those parts with their places
abbrev pub numbered_parts : Coded → Reference → ℕ → List Part
numbered_parts text reference count =
    numbered text.coding reference count 1 (map concat (full_parts text.coding (part_limit reference text.coding) text.units))

-- the full cutting of a text
abbrev pub text_parts : Coded → Reference → List (List (List ℕ))
text_parts text reference =
    if nat_le (length text.units) (single_limit text.coding)
    then (groups text.coding text.units ∷ [])
    else full_parts text.coding (part_limit reference text.coding) text.units

-- The one list of parts that a text is sent as. Crates above need its laws and not its body.
unfoldable pub parts_of : Coded → Reference → List Part
parts_of text reference = laid_out text reference (text_parts text reference)
