-- How workers are numbered, and what each bind has one of.
use Rattle.std.specs.Prelude.{ℕ, ◌/◌, ◌==◌, max, Option, Some, None, if◌then◌else◌}
use Rattle.sms_devices.specs.declared.places.PerBind.{PerBind}
use Rattle.sms_devices.specs.declared.places.WorkerPlace.{WorkerPlace}

-- the bind of a worker, where each bind has this many: workers are numbered through, bind by bind
abbrev pub bind_of : ℕ → ℕ → ℕ
bind_of workers worker = worker / max workers 1

-- where a worker stands
abbrev pub place_of : ℕ → ℕ → WorkerPlace
place_of workers worker = record { worker = worker; bind = bind_of workers worker }

-- the value of a bind; there are four
abbrev pub of_bind : {T : Type 0} → PerBind T → ℕ → Option T
of_bind o bind = if bind == 0 then Some o.first else (if bind == 1 then Some o.second else (if bind == 2 then Some o.third else (if bind == 3 then Some o.fourth else None)))
