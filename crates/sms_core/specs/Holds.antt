-- Hold sets: which holder has which slot of a bind's window. H is the kind of the holder: a worker's number, or the
-- name of a seat. A hold set is a list of pairs (holder, slot); two lists are one set where every weight weighs them the same.
use Rattle.std.specs.Prelude.{◌≡◌, ℕ, zero, suc, ◌+◌, ◌^◌, ◌≤◌, ◌==◌, Bool, List, [], ◌∷◌, if◌then◌else◌}
use Rattle.std.specs.Int.{bit_at}

module _ {H : Type 0} where
  -- f of each pair, added up
  abbrev pub weigh : (H × ℕ → ℕ) → List (H × ℕ) → ℕ
  weigh f [] = 0
  weigh f (p ∷ ps) = f p + weigh f ps

  -- 1 for a pair of the slot, else 0
  abbrev pub is_slot : ℕ → H × ℕ → ℕ
  is_slot slot p = if p.1 == slot then 1 else 0

  -- in how many pairs the slot is
  abbrev pub holders_of : ℕ → List (H × ℕ) → ℕ
  holders_of slot ps = weigh (is_slot slot) ps

  -- no slot is in two pairs
  abbrev pub IsLawful : List (H × ℕ) → Type 0
  IsLawful ps = (slot : ℕ) → holders_of slot ps ≤ 1

  -- the word of a hold set: the sum of 2 ^ slot over its pairs
  abbrev pub word_of : List (H × ℕ) → ℕ
  word_of ps = weigh (λ p. 2 ^ p.1) ps

  -- the same pairs, in any order: a split, which adds a holder without pairs
  abbrev pub SamePairs : List (H × ℕ) → List (H × ℕ) → Type 0
  SamePairs old new = (f : H × ℕ → ℕ) → weigh f new ≡ weigh f old

  -- a claim: no pair has the slot, and then one more pair is there, the holder's
  abbrev pub Claims : List (H × ℕ) → H → ℕ → List (H × ℕ) → Type 0
  Claims old h slot new = (holders_of slot old ≡ 0) × ((f : H × ℕ → ℕ) → weigh f new ≡ weigh f old + f (h, slot))

  -- a release: the holder's pair is gone, and no other
  abbrev pub Releases : List (H × ℕ) → H → ℕ → List (H × ℕ) → Type 0
  Releases old h slot new = (f : H × ℕ → ℕ) → weigh f old ≡ weigh f new + f (h, slot)

  -- a join: all pairs of one holder are another's
  abbrev pub Passes : List (H × ℕ) → (H → Bool) → H → List (H × ℕ) → Type 0
  Passes old is_from to new = (f : H × ℕ → ℕ) → weigh f new ≡ weigh (λ p. f (if is_from p.0 then to else p.0, p.1)) old

  -- the pairs of one holder whose slots below n are the bits of a word
  unfoldable pub pairs_below : H → ℕ → ℕ → List (H × ℕ)
  pairs_below h word zero = []
  pairs_below h word (suc n) = if bit_at word n == 1 then (h, n) ∷ pairs_below h word n else pairs_below h word n
