-- The cuttings of a long text (3GPP TS 23.040 9.2.3.24.1): a group is a list of units, and a part is a list
-- of groups.
use Rattle.std.specs.Prelude.{ℕ, ◌≡◌, ◌≤◌, ◌<◌, ◌+◌, nat_le, List, [], ◌∷◌, ◌++◌, length, All, if◌then◌else◌}
use Rattle.std.specs.List.{concat, flat_map}

-- how many units a part has
abbrev pub size : List (List ℕ) → ℕ
size part = length (concat part)

-- the groups of the parts, one part after another
abbrev pub all_groups : List (List (List ℕ)) → List (List ℕ)
all_groups parts = flat_map (λ part. part) parts

-- Parts of whole groups, none of them empty and none above the limit, that are the text's groups in order.
pub record IsCutting (limit : ℕ) (groups : List (List ℕ)) (parts : List (List (List ℕ))) : Type 0 where
  pub whole : all_groups parts ≡ groups
  pub none_empty : All (λ part. 0 < length part) parts
  pub within : All (λ part. size part ≤ limit) parts

-- the first group of a part
abbrev pub first_group : List (List ℕ) → List ℕ
first_group [] = []
first_group (group ∷ groups) = group

-- the first group of the part that follows, where there is one, does not fit behind these groups
abbrev pub HasNoRoom : ℕ → List (List ℕ) → List (List (List ℕ)) → Type 0
HasNoRoom limit part [] = Unit {0}
HasNoRoom limit part (next ∷ parts) = limit < size part + length (first_group next)

-- The first group of each later part does not fit into the part before.
abbrev pub IsFull : ℕ → List (List (List ℕ)) → Type 0
IsFull limit [] = Unit {0}
IsFull limit (part ∷ parts) = HasNoRoom limit part parts × IsFull limit parts

-- the parts of these groups, where the first part already has some
abbrev pub filled : ℕ → List (List ℕ) → List (List ℕ) → List (List (List ℕ))
filled limit part [] = part ∷ []
filled limit part (group ∷ groups) =
    if nat_le (size part + length group) limit then filled limit (part ++ group ∷ []) groups else (part ∷ filled limit (group ∷ []) groups)

-- the full cutting: the only one, as the law `a_full_cutting_is_the_only_one` says
abbrev pub full_cutting : ℕ → List (List ℕ) → List (List (List ℕ))
full_cutting limit [] = []
full_cutting limit (group ∷ groups) = filled limit (group ∷ []) groups
