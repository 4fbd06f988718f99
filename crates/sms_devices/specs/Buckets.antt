-- A bucket that limits the requests in any second. A level counts 1,010ths of a request; times are in milliseconds.
use Rattle.std.specs.Prelude.{ℕ, Bool, List, [], ◌∷◌, ◌+◌, ◌*◌, ◌-◌, ◌/◌, max, min, nat_lt, if◌then◌else◌}
use Rattle.sms_devices.specs.declared.gate.bucket.Bucket.{Bucket}
use Rattle.sms_devices.specs.declared.gate.bucket.Rate.{Rate}

-- how many requests may be saved up, if at most `most` are sent in a second: those of a fiftieth of a second, but at least one
abbrev pub room_for : ℕ → ℕ
room_for most = max (most / 50) 1

-- for at most `most` requests in a second: what may be saved up, and what comes in 1,010 ms, are together one more
abbrev pub rate_for : ℕ → Rate
rate_for most = record { rate = most - room_for most + 1; depth = room_for most }

-- a full bucket
abbrev pub full : Rate → ℕ → Bucket
full r now = record { level = r.depth * 1010; at_ms = now; lent = 0 }

-- the level at a time: what was there, and what came since at the rate, up to the depth
abbrev pub level_at : Rate → Bucket → ℕ → ℕ
level_at r b now = min (r.depth * 1010) (b.level + (now - b.at_ms) * r.rate)

-- there is a request's worth for which no permit is given out
abbrev pub can_lend : Rate → Bucket → ℕ → Bool
can_lend r b now = nat_lt b.lent (level_at r b now / 1010)

-- one more permit is given, if there is one
abbrev pub lent_at : Rate → Bucket → ℕ → Bucket
lent_at r b now =
    if can_lend r b now
    then record { level = level_at r b now; at_ms = max b.at_ms now; lent = b.lent + 1 }
    else b

-- a request with a permit is sent
abbrev pub sent_at : Rate → Bucket → ℕ → Bucket
sent_at r b now = record { level = level_at r b now - 1010; at_ms = max b.at_ms now; lent = b.lent - 1 }

-- a permit comes back unused
abbrev pub given_back : Bucket → Bucket
given_back b = record b { lent = b.lent - 1 }

-- what is asked of a bucket: a permit at a time; to send a request at a time, if one has a permit; to take a permit back
pub data Asked : Type 0 where
  Lend : (now : ℕ) → Asked
  Send : (now : ℕ) → Asked
  GiveBack : Asked

-- the bucket after it
abbrev pub after : Rate → Bucket → Asked → Bucket
after r b (Lend now) = lent_at r b now
after r b (Send now) = if nat_lt 0 b.lent then sent_at r b now else b
after r b GiveBack = given_back b

-- how many requests it sends
abbrev pub sends_at : Bucket → Asked → ℕ
sends_at b (Lend now) = 0
sends_at b (Send now) = if nat_lt 0 b.lent then 1 else 0
sends_at b GiveBack = 0

-- the bucket after all of these, in order, and how many requests they send
abbrev pub after_all : Rate → List Asked → Bucket → Bucket
after_all r [] b = b
after_all r (asked ∷ more) b = after_all r more (after r b asked)

abbrev pub sends : Rate → List Asked → Bucket → ℕ
sends r [] b = 0
sends r (asked ∷ more) b = sends_at b asked + sends r more (after r b asked)
