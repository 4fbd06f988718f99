-- The front of a text that a part takes.
use Rattle.std.specs.Prelude.{ℕ, ◌≡◌, ◌≤◌, ◌<◌, ◌+◌, Bool, false, List, [], ◌∷◌, ◌++◌, length, take, drop, if◌then◌else◌}
use Rattle.sms_alphabet.specs.declared.coded.Coding.{Coding}
use Rattle.sms_segment.specs.Group.{opens, is_pair, groups}
use Rattle.sms_segment.specs.Cutting.{first_group}

-- the last unit waits for the second of its pair
abbrev pub is_open : Coding → List ℕ → Bool
is_open coding [] = false
is_open coding (x ∷ []) = opens coding x
is_open coding (x ∷ (y ∷ units)) = if is_pair coding x y then is_open coding units else is_open coding (y ∷ units)

-- The longest front of whole groups that a part of at most `limit` units has room for.
pub record IsFront (coding : Coding) (limit : ℕ) (units : List ℕ) (count : ℕ) : Type 0 where
  pub in_text : count ≤ length units
  pub within : count ≤ limit
  pub some : 0 < length units → 0 < count
  pub whole : groups coding units ≡ groups coding (take count units) ++ groups coding (drop count units)
  pub full : count < length units → limit < count + length (first_group (groups coding (drop count units)))
