-- Laws of cuttings.
use Rattle.std.specs.Prelude.{ℕ, ◌≡◌, ◌≤◌, ◌<◌, ◌↔◌, ◌⊎◌, true, List, [], ◌∷◌, length, All}
use Rattle.std.specs.List.{concat}
use Rattle.sms_alphabet.specs.declared.coded.Coding.{Coding}
use Rattle.sms_alphabet.specs.declared.coded.Coded.{Coded}
use Rattle.sms_segment.specs.declared.part.Part.{Part}
use Rattle.sms_segment.specs.declared.place.Reference.{Reference}
use Rattle.sms_segment.specs.Group.{groups, is_pair}
use Rattle.sms_segment.specs.Limits.{part_limit}
use Rattle.sms_segment.specs.Cutting.{IsCutting, IsFull}
use Rattle.sms_segment.specs.Message.{IsTextCutting, IsFullyCut, IsTooLong, parts_of}
use Rattle.sms_segment.specs.Joining.{IsWhole, IsJoined}
use Rattle.sms_segment.specs.Part.{HasSeptets, short_message}
use Rattle.sms_alphabet.specs.Spelling.{IsLawful}

-- one unit, or the two of a pair
abbrev pub IsGroup : Coding → List ℕ → Type 0
IsGroup coding group =
    ((unit : ℕ) × (group ≡ unit ∷ []))
    ⊎ ((first : ℕ) × (second : ℕ) × (group ≡ first ∷ (second ∷ [])) × (is_pair coding first second ≡ true))

abbrev pub GroupsSpellText : Type 0
GroupsSpellText = (coding : Coding) (units : List ℕ) → (concat (groups coding units) ≡ units) × All (IsGroup coding) (groups coding units)

abbrev pub HasFullCutting : Type 0
HasFullCutting =
    (text : Coded) (reference : Reference)
    → (parts : List (List (List ℕ))) × IsTextCutting text reference parts × IsFull (part_limit reference text.coding) parts

-- at any limit
abbrev pub FullIsLeast : Type 0
FullIsLeast =
    (limit : ℕ) (groups : List (List ℕ)) (full other : List (List (List ℕ)))
    → IsCutting limit groups full → IsFull limit full → IsCutting limit groups other → length full ≤ length other

abbrev pub FullIsOnlyOne : Type 0
FullIsOnlyOne =
    (limit : ℕ) (groups : List (List ℕ)) (full other : List (List (List ℕ)))
    → IsCutting limit groups full → IsFull limit full → IsCutting limit groups other → IsFull limit other → full ≡ other

abbrev pub PartsAreFullyCut : Type 0
PartsAreFullyCut =
    (text : Coded) (reference : Reference) (sent : List Part)
    → IsFullyCut text reference sent ↔ (sent ≡ parts_of text reference)

abbrev pub PartsTellTooLong : Type 0
PartsTellTooLong =
    (text : Coded) (reference : Reference) → IsTooLong text reference ↔ (255 < length (parts_of text reference))

abbrev pub JoinGivesTextBack : Type 0
JoinGivesTextBack =
    (text : Coded) (reference : Reference) (sent : List Part)
    → IsFullyCut text reference sent
    → IsWhole sent × IsJoined sent text × ((joined : Coded) → IsJoined sent joined → joined ≡ text)

-- no part has more octets than a short message can carry
abbrev pub PartsFit : Type 0
PartsFit =
    (text : Coded) (reference : Reference) (sent : List Part)
    → IsFullyCut text reference sent → All (λ part. length (short_message part) ≤ 160) sent

-- what `short_message` asks of a part holds of each part of a lawful text
abbrev pub PartsHaveSeptets : Type 0
PartsHaveSeptets =
    (text : Coded) (reference : Reference) (sent : List Part)
    → IsLawful text → IsFullyCut text reference sent → All HasSeptets sent
