-- What a clock shows over a stop of the process.
use Rattle.std.proofs.Common.{◌≡◌, ℕ, ◌+◌, ◌-◌, ◌^◌, ◌<◌, ◌≤◌, max, min, ap, ◌∙◌, arith}
use Rattle.std.specs.Prelude.{if◌then◌else◌}
use Rattle.std.proofs.lemmas.Bool.{le-ltb, lt-ltb}
use Rattle.sms_devices.specs.declared.clock.steady.Steady.{Steady}
use Rattle.sms_devices.specs.Steady.{passed_to, read_at, stood_at}

still : (shown at later top : ℕ) → shown ≤ top → later ≤ at + 300 → later ≤ top → min (shown + (later - max at (min (at + 300) top))) top ≡ shown
still shown at later top small near within = omega (arith, small, near, within)

pub stops : (clock : Steady) (at later : ℕ) → clock.shown_ms ≤ 2 ^ 64 - 1 → clock.seen_ms + 1000 < at → later ≤ at + 300 → later ≤ 2 ^ 64 - 1 → (read_at (read_at clock at) later).shown_ms ≡ clock.shown_ms
stops clock at later small stop near within =
    let first : read_at clock at ≡ stood_at clock at = ap (λ t. if t then stood_at clock at else passed_to clock at) (lt-ltb 1000 (at - clock.seen_ms) (omega (arith, stop))) in
    let second : read_at (stood_at clock at) later ≡ passed_to (stood_at clock at) later =
    ap (λ t. if t then stood_at (stood_at clock at) later else passed_to (stood_at clock at) later) (le-ltb 1000 (later - at) (omega (arith, near))) in
    ap (λ (c : Steady). (read_at c later).shown_ms) first ∙ ap (λ (c : Steady). c.shown_ms) second ∙ still clock.shown_ms at later (2 ^ 64 - 1) small near within
