-- The limits of a gate: what its parts were made with.
use Rattle.std.specs.Prelude.{◌≡◌, ℕ, Option, Some, None}
use Rattle.sms_devices.specs.Buckets.{rate_for}
use Rattle.sms_devices.specs.declared.gate.rate_limiter.RateLimiter.{RateLimiter}
use Rattle.sms_devices.specs.declared.gate.watchdog.Watchdog.{Watchdog}

-- there is a rate limiter where a rate is given, and it is of that rate: so many requests in any second at most
abbrev pub LimitsTo : {R B P : Type 0} → Option ℕ → Option (RateLimiter R B P) → Type 0
LimitsTo None None = Unit {0}
LimitsTo (Some most) (Some limiter) = limiter.rate ≡ rate_for most
LimitsTo None (Some limiter) = ⊥
LimitsTo (Some most) None = ⊥

-- there is a watchdog where a number of requests is given, and it gives a bind up after so many without an answer, the last of which was
-- waited for so many milliseconds
abbrev pub StopsAfter : {R C : Type 0} → Option ℕ → ℕ → Option (Watchdog R C) → Type 0
StopsAfter None ms None = Unit {0}
StopsAfter (Some most) ms (Some watchdog) = watchdog.limit ≡ record { most = most; answer_ms = ms }
StopsAfter None ms (Some watchdog) = ⊥
StopsAfter (Some most) ms None = ⊥
