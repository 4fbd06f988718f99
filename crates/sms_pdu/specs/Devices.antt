-- What contracts see of a counted device.
use Rattle.std.specs.Prelude.{ℕ}
use Rattle.sms_pdu.specs.declared.tap.Tap.{Tap}

-- the reader or writer itself
abbrev pub device : {T : Type 0} → Tap T → T
device tap = tap.inner

-- how many errors it answered
abbrev pub faults_of : {T : Type 0} → Tap T → ℕ
faults_of tap = tap.faults

-- how many of them say more than that nothing came
abbrev pub failures_of : {T : Type 0} → Tap T → ℕ
failures_of tap = tap.failures
