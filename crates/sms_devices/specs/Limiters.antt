-- What the rate limiter and the watchdog of a gate ask of the bind that a worker belongs to.
use Rattle.std.specs.Prelude.{◌≡◌, ◌⊎◌, Bool, true, false, Option, None, nat_lt, if◌then◌else◌}
use Rattle.sms_devices.specs.Places.{of_bind}
use Rattle.sms_devices.specs.declared.gate.rate_limiter.RateLimiter.{RateLimiter}
use Rattle.sms_devices.specs.declared.places.WorkerPlace.{WorkerPlace}

-- the bucket of a worker's bind; none beyond the last of 32 workers
abbrev pub bucket_of : {R B P : Type 0} → RateLimiter R B P → WorkerPlace → Option B
bucket_of s place = if nat_lt place.worker 32 then of_bind s.buckets place.bind else None

-- a worker that was found to have a permit may send; another one has what the bucket of its bind gives
abbrev pub Allows : (Bool → Type 0) → (Bool → Type 0) → (Bool → Type 0) → Bool → Type 0
Allows finds sets lends answer = ((answer ≡ true) × finds true) ⊎ (finds false × lends answer × sets answer)

-- a worker had no permit, or its permit is back in the bucket
abbrev pub Returns : (Bool → Type 0) → Type 0 → Type 0
Returns takes gets_back = takes false ⊎ (takes true × gets_back)
