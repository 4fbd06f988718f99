-- Fewer requests at once while the message centre throttles: what the reader's seat does after each answer.
use Rattle.std.specs.Prelude.{◌≡◌, ◌≢◌, ℕ, ◌+◌, ◌<◌, ◌≤◌, ◌-◌, ◌==◌, if◌then◌else◌, Bool, true, false, ◌&&◌, not, List, [], ◌∷◌, ◌++◌, length, Option, Some, None}
use Rattle.sms_core.specs.Statuses.{no_error, throttled}
use Rattle.sms_pdu.specs.declared.reply.Reply.{Reply}
use Rattle.sms_window.specs.declared.view.View.{View}
use Rattle.sms_window.specs.declared.outcome.Claim.{Claim}
use Rattle.sms_window.specs.declared.outcome.Claim.TheVariants.{Got, Full, Contended}
use Rattle.sms_window.specs.OpenSlots.{IsOpen}
use Rattle.sms_window.specs.Outcome.{Claimed, FreedSlot}
use Rattle.sms_window.specs.SeatState.{SeatState}
use Rattle.sms_bind.specs.Held.{Held}

-- the most slots that are held back: one of the window's slots stays for the workers; without following none is held back
abbrev pub most_held : Option ℕ → ℕ
most_held None = 0
most_held (Some limit) = limit - 1

-- a seat that has held nothing back yet
abbrev pub held_none : SeatState → ℕ → Held
held_none seat most = record { began = seat; now = seat; claimed = []; most = most; good = 0 }

abbrev pub is_good : Reply → Bool
is_good reply = not reply.nack && (reply.status == no_error)

abbrev pub is_throttled : Reply → Bool
is_throttled reply = not reply.nack && (reply.status == throttled)

-- the good answers after which a slot is given back
abbrev pub good_row : ℕ
good_row = 16

-- how many answers in a row were good; after a full row the count is 0 again
abbrev pub good_after : Reply → ℕ → ℕ
good_after reply good = if is_good reply then (if good + 1 == good_row then 0 else good + 1) else 0

-- the answer is the last of a full row of good ones
abbrev pub fills : Reply → ℕ → Bool
fills reply good = is_good reply && (good + 1 == good_row)

-- the same seat of the same window goes on
pub record Follows (old new : Held) : Type 0 where
  pub window : new.now.window ≡ old.now.window
  pub began : new.began ≡ old.began
  pub most : new.most ≡ old.most

-- the seat is as it was
pub record Rests (old new : Held) : Type 0 where
  pub seat : new.now ≡ old.now
  pub claimed : new.claimed ≡ old.claimed

abbrev pub claimed_by : Claim → List ℕ
claimed_by (Got slot) = slot ∷ []
claimed_by Full = []
claimed_by (Contended found) = []

-- one claim was tried, and the slot that it got is held back
pub record Tries (old new : Held) : Type 0 where
  pub claim : Claim
  pub tried : Claimed old.now.view claim new.now.view
  pub claimed : new.claimed ≡ old.claimed ++ claimed_by claim

-- the slot that was claimed last was released
pub record Frees (old new : Held) : Type 0 where
  pub slot : ℕ
  pub last : old.claimed ≡ new.claimed ++ slot ∷ []
  pub freed : FreedSlot old.now.view slot new.now.view

-- a claim is tried where fewer than the most are held back
pub record Takes (old new : Held) : Type 0 where
  pub room : length old.claimed < old.most → Tries old new
  pub full : old.most ≤ length old.claimed → Rests old new

-- a slot is given back, if one is held back
pub record Gives (old new : Held) : Type 0 where
  pub none : old.claimed ≡ [] → Rests old new
  pub some : old.claimed ≢ [] → Frees old new

-- what an answer that a ring took does to the seat
pub record Notes (reply : Reply) (old new : Held) : Type 0 where
  pub follows : Follows old new
  pub good : new.good ≡ good_after reply old.good
  pub takes : is_throttled reply ≡ true → Takes old new
  pub gives : fills reply old.good ≡ true → Gives old new
  pub rests : is_throttled reply ≡ false → fills reply old.good ≡ false → Rests old new

-- beside the slots that the seat held at first, it holds at most `most` more
pub record HoldsBack (most : ℕ) (began now : View) : Type 0 where
  pub more : List ℕ
  pub slots : IsOpen began.slots more now.slots
  pub few : length more ≤ most
