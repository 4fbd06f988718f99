-- How long a time from now on says that a message is worth anything (SMPP 3.4 7.1.1.2).
use Rattle.std.specs.Prelude.{◌≡◌, ℕ, ◌+◌, ◌*◌, ◌≤◌, true, List, slice_index_or}
use Rattle.sms_files.specs.Times.{from_now, is_relative, is_spelled, number_by}

-- the number that two digits spell at a place
abbrev pub number_at : List ℕ → ℕ → ℕ
number_at text place = number_by (slice_index_or text place 0) (slice_index_or text (place + 1) 0)

-- it is a time from now on, and says no years and no months, and in days, hours, minutes and seconds so many seconds in all
pub record SaysSeconds (text : List ℕ) (seconds : ℕ) : Type 0 where
  pub spelled : is_spelled text ≡ true
  pub from_now_on : is_relative text ≡ true
  pub years : number_at text 0 ≡ 0
  pub months : number_at text 2 ≡ 0
  pub all : number_at text 4 * 86400 + number_at text 6 * 3600 + number_at text 8 * 60 + number_at text 10 ≡ seconds

-- a validity in seconds is sent as a time that says so many
abbrev pub SecondsAreReadBack : Type 0
SecondsAreReadBack = (seconds : ℕ) → seconds ≤ 2_592_000 → SaysSeconds (from_now seconds) seconds
