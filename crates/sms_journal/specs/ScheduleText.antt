-- What audit prints: the schedule as records of CSV, which replay reads.
use Rattle.std.specs.Prelude.{◌≡◌, ℕ, ◌+◌, ◌≤◌, Bool, true, false, List, [], ◌∷◌, ◌++◌, length, codes, decimal, string_bytes}
use Rattle.sms_core.specs.declared.event.Event.{Event}
use Rattle.sms_core.specs.declared.event.Event.TheVariants.{TopUp, Reserve, Claim, Post, Respond, Settle, Expire, Discard, Release}
use Rattle.sms_journal.specs.declared.audit.lines.Lines.{Lines}

-- a word, which ends with a comma, and the numbers behind it
abbrev pub one_number : List ℕ → ℕ → List ℕ
one_number word a = word ++ decimal a ++ codes "\n"

abbrev pub two_numbers : List ℕ → ℕ → ℕ → List ℕ
two_numbers word a b = word ++ decimal a ++ codes "," ++ decimal b ++ codes "\n"

abbrev pub three_numbers : List ℕ → ℕ → ℕ → ℕ → List ℕ
three_numbers word a b c = word ++ decimal a ++ codes "," ++ decimal b ++ codes "," ++ decimal c ++ codes "\n"

-- whether an answer is a generic_nack
abbrev pub flag : Bool → ℕ
flag true = 1
flag false = 0

abbrev pub event_text : Event → List ℕ
event_text (TopUp account amount) = two_numbers (codes "topup,") account amount
event_text (Reserve request account cost) = three_numbers (codes "reserve,") request account cost
event_text (Claim worker slot) = two_numbers (codes "claim,") worker slot
event_text (Post worker slot request) = three_numbers (codes "post,") worker slot request
event_text (Respond number status nack) = three_numbers (codes "respond,") number status (flag nack)
event_text (Settle worker slot) = two_numbers (codes "settle,") worker slot
event_text (Expire worker slot) = two_numbers (codes "expire,") worker slot
event_text (Discard request) = one_number (codes "discard,") request
event_text (Release worker slot) = two_numbers (codes "release,") worker slot

abbrev pub events_text : List Event → List ℕ
events_text [] = []
events_text (e ∷ es) = event_text e ++ events_text es

-- a world of so many accounts, of one slot, in which a request is sent at most so often
abbrev pub world_text : ℕ → ℕ → List ℕ
world_text accounts most = three_numbers (codes "world,") accounts 1 most

-- and its events
abbrev pub schedule_text : ℕ → ℕ → List Event → List ℕ
schedule_text accounts most es = world_text accounts most ++ events_text es

-- ---- what the code keeps

-- each event and each number that was drawn has octets of its own, so none is past 2^64
pub record Fits (l : Lines) : Type 0 where
  pub events : l.events ≤ length (string_bytes l.text)
  pub next : l.next ≤ length (string_bytes l.text)

-- a line more
pub record Writes (old new : Lines) (line : List ℕ) : Type 0 where
  pub text : string_bytes new.text ≡ string_bytes old.text ++ line
  pub events : new.events ≡ old.events + 1
  pub next : new.next ≡ old.next
  pub fits : Fits new
  -- and an octet for one number more
  pub room : new.next + 1 ≤ length (string_bytes new.text)

-- these events more, which drew so many numbers
pub record Adds (old new : Lines) (es : List Event) (drawn : ℕ) : Type 0 where
  pub text : string_bytes new.text ≡ string_bytes old.text ++ events_text es
  pub events : new.events ≡ old.events + length es
  pub next : new.next ≡ old.next + drawn
  pub fits : Fits new

-- of all these events some are left to be written
pub record Leaves (old now : Lines) (all left : List Event) (drawn more : ℕ) : Type 0 where
  pub text : string_bytes now.text ++ events_text left ≡ string_bytes old.text ++ events_text all
  pub events : now.events + length left ≡ old.events + length all
  pub next : now.next + more ≡ old.next + drawn
  pub fits : Fits now
