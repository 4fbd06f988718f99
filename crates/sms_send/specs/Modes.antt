-- Who may read a file, by the three octal digits of its mode: the owner's, the group's and that of all others. A digit is 4 for
-- reading, 2 for writing and 1 for running it.
use Rattle.std.specs.Prelude.{ℕ, Bool, ◌/◌, ◌%◌, ◌||◌, nat_le}

-- a digit lets its user read
abbrev pub reads : ℕ → Bool
reads digit = nat_le 4 digit

-- someone other than the owner may
abbrev pub lets_others_read : ℕ → Bool
lets_others_read mode = reads (mode / 8 % 8) || reads (mode % 8)
