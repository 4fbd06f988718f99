-- Which open requests expire.
use Rattle.std.specs.Prelude.{◌≡◌, ℕ, zero, suc, ◌+◌, ◌-◌, ◌<◌, ◌≤◌, ◌⊎◌, ◌++◌, Bool, true, false, IsTrue, length, take, drop, Some, slice_get}
use Rattle.sms_worker.specs.declared.state.open.Open.{Open}
use Rattle.sms_worker.specs.RunState.{RunState}
use Rattle.sms_worker.specs.PendingState.{changed, settled_one}

-- without the open request at the place
abbrev pub without_open : ℕ → RunState → RunState
without_open i run = record run { opened = take i run.opened ++ drop (suc i) run.opened }

-- the request at the place expired: it is open no more, and its segment needs its part no more
pub record ExpiresAt (i : ℕ) (old new : RunState) : Type 0 where
  pub request : Open
  pub there : slice_get old.opened i ≡ Some request
  pub now : new ≡ record (without_open i old) { pending = changed settled_one old.pending request.place.message }

-- the request at the place has waited for so long, or the line is down
pub record IsToExpire (down : Bool) (limit now i : ℕ) (run : RunState) : Type 0 where
  pub request : Open
  pub there : slice_get run.opened i ≡ Some request
  pub due : IsTrue down ⊎ (limit ≤ now - request.since.at_ms)

-- it hasn't, and the line isn't down
pub record IsYetOpen (down : Bool) (limit now i : ℕ) (run : RunState) : Type 0 where
  pub request : Open
  pub there : slice_get run.opened i ≡ Some request
  pub up : down ≡ false
  pub early : now - request.since.at_ms < limit

-- so many looks, each at the first request that wasn't found answered and at one that is to expire: it expires, or it is found answered; so many were, and maybe any expired
abbrev pub AreLooks : Bool → ℕ → ℕ → ℕ → ℕ → Bool → RunState → RunState → Type 0
AreLooks down limit now zero answered any old new = (answered ≡ 0) × (any ≡ false) × (new ≡ old)
AreLooks down limit now (suc n) answered any old new = (mid : RunState) × (before : ℕ) × (was : Bool) × AreLooks down limit now n before was old mid × IsToExpire down limit now before mid
    × ((ExpiresAt before mid new × (answered ≡ before) × (any ≡ true)) ⊎ ((new ≡ mid) × (answered ≡ before + 1) × (any ≡ was)))

-- as many looks at this time as a window has slots, or until none is left to look at, or until one waits that is to wait yet
pub record Expires (limit now : ℕ) (down any : Bool) (answered : ℕ) (old new : RunState) : Type 0 where
  pub looks : ℕ
  pub each : AreLooks down limit now looks answered any old new
  pub rest : (length new.opened ≤ answered) ⊎ IsYetOpen down limit now answered new ⊎ (looks ≡ 64)
