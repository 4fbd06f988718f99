-- What the readers of a run's binds have beside their connections.
use Rattle.std.specs.Prelude.{◌≡◌, ℕ, Option, option_map}
use Rattle.sms_session.specs.Enquiries.{Watch, begun}
use Rattle.sms_devices.specs.declared.inbox.EnquireTimes.{EnquireTimes}

-- a line that is to be asked is watched from a moment on, with these times
abbrev pub IsBegun : Option EnquireTimes → Option Watch → Type 0
IsBegun times watch = (now : ℕ) × (watch ≡ option_map (λ t. begun t.idle_ms t.answer_ms now) times)
