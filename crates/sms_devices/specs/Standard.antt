-- The descriptors of standard input, output and error.
use Rattle.std.specs.Prelude.{◌≡◌, ◌⊎◌, ℤ, pos}

abbrev pub IsStandard : ℤ → Type 0
IsStandard number = (number ≡ pos 0) ⊎ ((number ≡ pos 1) ⊎ (number ≡ pos 2))
