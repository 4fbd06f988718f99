-- A clock that stands still while the process is stopped, beside the system's clock.
use Rattle.std.specs.Prelude.{ℕ, ◌+◌, ◌-◌, ◌^◌, max, min, nat_lt, if◌then◌else◌}
use Rattle.sms_devices.specs.declared.clock.steady.Steady.{Steady}

-- a number stops at its greatest value
abbrev pub largest : ℕ → ℕ
largest n = min n (2 ^ 64 - 1)

-- the process goes on at this time of the system after a stop: what has passed doesn't count, nor do the next 300 ms
abbrev pub stood_at : Steady → ℕ → Steady
stood_at clock at = record { seen_ms = at; stands_ms = largest (at + 300); shown_ms = clock.shown_ms }

-- what has passed since the last reading counts, except while the clock stands still
abbrev pub passed_to : Steady → ℕ → Steady
passed_to clock at = record {
  seen_ms = max clock.seen_ms at;
  stands_ms = clock.stands_ms;
  shown_ms = largest (clock.shown_ms + (at - max clock.seen_ms clock.stands_ms));
}

-- it is read at this time of the system: more than 1,000 ms since the last reading are a stop
abbrev pub read_at : Steady → ℕ → Steady
read_at clock at = if nat_lt 1000 (at - clock.seen_ms) then stood_at clock at else passed_to clock at
