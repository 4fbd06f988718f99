-- How a connection's turns were read and written.
use Rattle.std.specs.Prelude.{◌≡◌, ℕ, ◌≤◌, List, Option, Some, None}
use Rattle.std.specs.Io.KnownBytes.{IsAtEnd}
use Rattle.sms_pdu.specs.declared.tap.Tap.{Tap}
use Rattle.sms_pdu.specs.Devices.{device, faults_of, failures_of}
use Rattle.sms_pdu.specs.Faults.{Counts}
use Rattle.sms_pdu.specs.Turn.{Turned}
use Rattle.sms_centre.specs.declared.serving.Stop.{Stop}
use Rattle.sms_centre.specs.declared.serving.Stop.TheVariants.{Ended, ReadFault, WriteFault, Turns}

-- What the input gave in at most this many turns, where `remaining` is what it has left. `all` says that the turns were used up,
-- and `ended` of a stop that it ended the connection.
pub record ReadSoFar {R : Type 0} (remaining : R → Option (List ℕ)) (turns : ℕ) (all : Type 0) (ended : Stop → Type 0) (old new : Tap R) : Type 0 where
  pub turned : Turned turns all (remaining (device old)) (remaining (device new)) (faults_of old) (faults_of new)
  pub grows : faults_of old ≤ faults_of new
  -- the input has nothing left
  pub end : ended Ended → IsAtEnd (remaining (device new))
  -- a failed read counts one failure, and nothing else counts any
  pub failed : ended ReadFault → Counts (failures_of old) (failures_of new)
  pub quiet : ¬ ended ReadFault → failures_of new ≡ failures_of old

-- of turns after which the connection ended
abbrev pub ReadUntil : {R : Type 0} → (R → Option (List ℕ)) → ℕ → Stop → Tap R → Tap R → Type 0
ReadUntil remaining turns stop old new = ReadSoFar remaining turns (stop ≡ Turns) (λ s. stop ≡ s) old new

-- of one turn, which ended the connection where it gives a stop
abbrev pub ReadOnce : {R : Type 0} → (R → Option (List ℕ)) → Option Stop → Tap R → Tap R → Type 0
ReadOnce remaining end old new = ReadSoFar remaining 1 (end ≡ None) (λ s. end ≡ Some s) old new

-- the output counts one error where a write failed, and else none
pub record CountsWrites {W : Type 0} (ended : Stop → Type 0) (old new : Tap W) : Type 0 where
  pub failed : ended WriteFault → Counts (faults_of old) (faults_of new)
  pub quiet : ¬ ended WriteFault → faults_of new ≡ faults_of old
