-- Sequence numbers that are drawn (SMPP 3.4, 3.2 and 5.1.4): one word has the next number, and each draw takes it.
use Rattle.std.specs.Prelude.{◌≡◌, ℕ, ◌+◌, ◌<◌, ◌==◌, nat_lt, List, [], ◌∷◌, ◌++◌, if◌then◌else◌}

-- how often n stands in the list
abbrev pub times : ℕ → List ℕ → ℕ
times n [] = 0
times n (x ∷ xs) = (if x == n then 1 else 0) + times n xs

-- 1 for a number below the top, else 0
abbrev pub once_below : ℕ → ℕ → ℕ
once_below n top = if nat_lt n top then 1 else 0

-- the list has each number from the first to next - 1 once, and no other
abbrev pub AreDrawn : ℕ → ℕ → List ℕ → Type 0
AreDrawn first next numbers = (n : ℕ) → times n numbers + once_below n first ≡ once_below n next

-- a draw: the next number is the holder's last, and the next one is one more
abbrev pub Draws : List ℕ → ℕ → List ℕ → ℕ → Type 0
Draws old next new after = (new ≡ old ++ next ∷ []) × (after ≡ next + 1)

-- each number of the list is below the top
abbrev pub AllBelow : ℕ → List ℕ → Type 0
AllBelow top [] = Unit {0}
AllBelow top (x ∷ xs) = (x < top) × AllBelow top xs

-- each number of the list is above the low one
abbrev pub AllAbove : ℕ → List ℕ → Type 0
AllAbove low [] = Unit {0}
AllAbove low (x ∷ xs) = (low < x) × AllAbove low xs

-- each is greater than those before it
abbrev pub IsRising : List ℕ → Type 0
IsRising [] = Unit {0}
IsRising (x ∷ xs) = AllAbove x xs × IsRising xs
