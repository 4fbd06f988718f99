-- What a failed call does to a count of failures.
use Rattle.std.specs.Prelude.{◌≡◌, ℕ, ◌+◌, ◌^◌, ◌-◌, ◌≤◌, ◌<◌, ◌⊎◌, min, if◌then◌else◌}
use Rattle.std.specs.declared.io.ErrorKind.{ErrorKind}
use Rattle.sms_pdu.specs.Turn.{gives_nothing}

-- one failure more, unless the count stood at its greatest value
abbrev pub Counts : ℕ → ℕ → Type 0
Counts old new = new ≡ min (old + 1) (2 ^ 64 - 1)

-- so many more, unless the count came to its greatest value
abbrev pub CountsMany : ℕ → ℕ → ℕ → Type 0
CountsMany n old new = new ≡ min (old + n) (2 ^ 64 - 1)

-- one more where the error is none of those that only say that nothing came
abbrev pub failures_after : ErrorKind → ℕ → ℕ
failures_after kind old = if gives_nothing kind then old else min (old + 1) (2 ^ 64 - 1)

-- a failure was counted in between, or no more can be
abbrev pub IsCounted : ℕ → ℕ → Type 0
IsCounted old new = (old < new) ⊎ (2 ^ 64 - 1 ≤ old)
