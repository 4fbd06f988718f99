-- The most that a world takes, in numbers of the definitions' own: the code's constants are compared with them.
use Rattle.std.specs.Prelude.{ℕ, ◌^◌}

abbrev pub most_accounts : ℕ
most_accounts = 64

-- the slots of a window
abbrev pub most_slots : ℕ
most_slots = 64

-- how often a request may be sent
abbrev pub most_attempts : ℕ
most_attempts = 10

-- the credits that an account is topped up with
abbrev pub most_topped : ℕ
most_topped = 2 ^ 40

-- the credits that a request costs
abbrev pub largest_cost : ℕ
largest_cost = 1000

-- the greatest sequence number (SMPP 3.4 5.1.4)
abbrev pub top_number : ℕ
top_number = 0x7FFF_FFFF
