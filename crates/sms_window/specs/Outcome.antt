-- What each call says of the seat before and after.
use Rattle.std.specs.Prelude.{◌≡◌, ℕ, ◌+◌, ◌-◌, ◌^◌, ◌<◌, ◌≤◌}
use Rattle.std.specs.Int.{bit_at}
use Rattle.sms_core.specs.Limits.{most_slots, top_number}
use Rattle.sms_core.specs.Numbers.{AreDrawn, AllBelow}
use Rattle.sms_window.specs.declared.view.View.{View}
use Rattle.sms_window.specs.declared.view.Opening.{Opening}
use Rattle.sms_window.specs.declared.outcome.Claim.{Claim}
use Rattle.sms_window.specs.declared.outcome.Claim.TheVariants.{Got, Full, Contended}
use Rattle.sms_window.specs.declared.outcome.Draw.{Draw}
use Rattle.sms_window.specs.declared.outcome.Draw.TheVariants.{Number, UsedUp, Contended as DrawContended}
use Rattle.sms_window.specs.declared.error.WindowError.{WindowError}
use Rattle.sms_window.specs.declared.error.WindowError.TheVariants.{BadLimit, BadFirst, OutOfMemory}
use Rattle.atomic_table.specs.Seated.{TableId}
use Rattle.sms_window.specs.SeatState.{SeatState}
use Rattle.sms_window.specs.Seats.{used_up, met_with, with_slots, seen_with, drawn_with, Holds, IsComplete}
use Rattle.sms_window.specs.Rule.{keeper}
use Rattle.sms_window.specs.Steps.{IsClaim, IsRelease, IsDraw}

-- the seat has the slot too, by a claim; every lower slot is held in the word that it left
pub record GotSlot (v : View) (slot : ℕ) (w : View) : Type 0 where
  pub now : Holds w slot
  pub after : w ≡ with_slots v (v.slots + 2 ^ slot) w.met
  pub claim : (word : ℕ) × IsClaim v slot word w
  pub least : (i : ℕ) → i < slot → bit_at w.met i ≡ 1

abbrev pub Claimed : View → Claim → View → Type 0
Claimed v (Got slot) w = GotSlot v slot w
Claimed v Full w = w ≡ met_with v (2 ^ most_slots - 1)
Claimed v (Contended found) w = w ≡ met_with v found

-- the seat has the slot no more, by a release
pub record FreedSlot (v : View) (slot : ℕ) (w : View) : Type 0 where
  pub after : w ≡ with_slots v (v.slots - 2 ^ slot) w.met
  pub release : (word : ℕ) × IsRelease v slot word w

-- the seat has the number too, by a draw; it is at least what the seat had seen
pub record DrewNumber (v : View) (n : ℕ) (w : View) : Type 0 where
  pub after : w ≡ drawn_with v n
  pub draw : IsDraw v n w
  pub later : v.seen ≤ n
  pub lawful : n ≤ top_number

-- the seat drew nothing, and has seen that the number word is this one; it never falls
pub record SawNumber (v : View) (found : ℕ) (w : View) : Type 0 where
  pub after : w ≡ seen_with v found
  pub seen : w.seen ≡ found
  pub later : v.seen ≤ found
  pub top : found ≤ used_up

-- the same where another seat drew meanwhile: the number word is later than what the seat had seen
abbrev pub MetNumber : View → ℕ → View → Type 0
MetNumber v found w = SawNumber v found w × (v.seen < found)

abbrev pub Drawn : View → Draw → View → Type 0
Drawn v (Number n) w = DrewNumber v n w
Drawn v UsedUp w = SawNumber v used_up w
Drawn v (DrawContended found) w = MetNumber v found w

abbrev pub IsLimit : ℕ → Type 0
IsLimit limit = (1 ≤ limit) × (limit ≤ most_slots)

-- a sequence number that a request may have (SMPP 3.4 5.1.4)
abbrev pub IsFirst : ℕ → Type 0
IsFirst first = (1 ≤ first) × (first ≤ top_number)

abbrev pub opening_of : ℕ → ℕ → Opening
opening_of limit first = record { limit = limit; first = first }

-- a new window, with the keeper's seat
pub record IsMade (limit first : ℕ) (window : TableId) (seat : SeatState) : Type 0 where
  pub good_limit : IsLimit limit
  pub good_first : IsFirst first
  pub own : seat.window ≡ window
  pub opened : seat.view ≡ keeper (opening_of limit first)

-- which refusal comes: a bad limit before a bad first number, and memory for neither
abbrev pub Refuses : ℕ → ℕ → WindowError → Type 0
Refuses limit first BadLimit = ¬ IsLimit limit
Refuses limit first BadFirst = IsLimit limit × ¬ IsFirst first
Refuses limit first OutOfMemory = IsLimit limit × IsFirst first

-- what a window ends with, where the seat v was handed in
pub record IsEnd (v : View) (word number : ℕ) : Type 0 where
  pub slots : (k : ℕ) → k < most_slots → bit_at v.slots k ≡ 1 → bit_at word k ≡ 1
  pub numbers : AllBelow number v.numbers
  pub next : (v.first ≤ number) × (number ≤ used_up)
  pub seen : v.seen ≤ number
  pub held : IsComplete v → word ≡ v.slots
  -- each number from the first on was drawn once, and no other
  pub drawn : IsComplete v → AreDrawn v.first number v.numbers
