-- Where the requests of a run are while its log is open, and what was written of its wires.
use Rattle.std.specs.Prelude.{◌≡◌, ℕ, ◌+◌, List, ◌++◌, length, map, Option, Bool}
use Rattle.std.specs.List.{AllByRecursion}
use Rattle.sms_session.specs.Settings.{Setting}
use Rattle.sms_bind.specs.Logs.{BeginsBehind, Keeping, Wrote}
use Rattle.sms_driver.specs.Rings.{flat}

-- this many wires and threads went away from the keeper of a log; nothing came back
pub record HasDealt (more : ℕ) (old new : Keeping) : Type 0 where
  pub away : new.away ≡ old.away + more
  pub given : new.given ≡ old.given
  pub requests : new.requests ≡ old.requests

-- this many of them came back to the keeper, with these requests
pub record IsBack (less : ℕ) (more : List (List ℕ)) (old new : Keeping) : Type 0 where
  pub away : new.away + less ≡ old.away
  pub requests : new.requests ≡ old.requests ++ more

-- the end of a wire: what its writer had when its log began and what it has now, if it is known, whether the wire broke, and the frames of the log
pub record WireEnd : Type 0 where
  pub first : Option (List ℕ)
  pub last : Option (List ℕ)
  pub broken : Bool
  pub log : List (List ℕ)

-- the log began right behind a bind by these settings; and its frames were written whole and in order, where the wire broke the last of them in part
pub record IsWritten (settings : Option Setting) (end : WireEnd) : Type 0 where
  pub behind : BeginsBehind settings end.first
  pub wrote : Wrote end.broken end.first end.last end.log

-- the frames that were given more are those of this many wires' logs, wire by wire
pub record AreWritten (settings : Option Setting) (count : ℕ) (old new : List (List ℕ)) : Type 0 where
  pub wires : List WireEnd
  pub all : length wires ≡ count
  pub each : AllByRecursion (IsWritten settings) wires
  pub given : new ≡ old ++ flat (map (λ w. w.log) wires)
