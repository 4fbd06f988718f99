-- What contracts see of a wire.
use Rattle.std.specs.Prelude.{◌≡◌, ℕ, List, Option, Bool, true, false, Result, Err, IfOk, OnOk, OnErr, MatchResult, ◌↔◌, ◌⊎◌}
use Rattle.std.specs.Io.KnownBytes.{Appends}
use Rattle.sms_pdu.specs.Devices.{device, faults_of}
use Rattle.sms_pdu.specs.Faults.{Counts, IsCounted}
use Rattle.sms_pdu.specs.Streams.{SomeAppended, FewerAppended}
use Rattle.sms_bind.specs.declared.wire.Wire.{Wire}
use Rattle.sms_bind.specs.declared.wire.WireFault.{WireFault}
use Rattle.sms_bind.specs.declared.wire.WireFault.TheVariants.{Write as WriteFault, Broken}

-- the writer that a wire writes to
abbrev pub writer : {W : Type 0} → Wire W → W
writer wire = device wire.tap

-- how many errors the writer returned
abbrev pub write_faults : {W : Type 0} → Wire W → ℕ
write_faults wire = faults_of wire.tap

-- whether a send has failed
abbrev pub is_broken : {W : Type 0} → Wire W → Bool
is_broken wire = wire.broken

-- what a send of a frame does to the wire, and its result
pub record Sends {W : Type 0} (contents : W → Option (List ℕ)) (old new : Wire W) (frame : List ℕ) (result : Result (List ℕ) WireFault) : Type 0 where
  pub receipt : IfOk result (λ r. r ≡ frame)
  pub failed_receipt : (r : List ℕ) → result ≡ Err (WriteFault r) → r ≡ frame
  -- a broken wire is left as it is, and a wire is broken once a write has failed
  pub broken : (result ≡ Err Broken) ↔ (is_broken old ≡ true)
  pub kept : is_broken old ≡ true → new ≡ old
  pub after : MatchResult result (λ _. is_broken new ≡ false) (λ _. is_broken new ≡ true)
  -- the frame was written whole, or a first part of it
  pub whole : OnOk result (Appends (contents (writer old)) (contents (writer new)) frame)
  pub part : OnErr result (SomeAppended (contents (writer old)) (contents (writer new)) frame)
  pub short : (r : List ℕ) → result ≡ Err (WriteFault r) → FewerAppended (contents (writer old)) (contents (writer new)) frame
  -- an error of the writer is counted, and nothing else
  pub no_fault : OnOk result (write_faults new ≡ write_faults old)
  pub counted : (r : List ℕ) → result ≡ Err (WriteFault r) → Counts (write_faults old) (write_faults new)
  pub fault : OnErr result ((is_broken old ≡ true) ⊎ IsCounted (write_faults old) (write_faults new))
