-- How a reader's turns were read, and how many of them.
use Rattle.std.specs.Prelude.{◌≡◌, ℕ, ◌+◌, ◌*◌, ◌-◌, ◌^◌, ◌<◌, ◌≤◌, List, length, Option, Some, None}
use Rattle.std.specs.Io.KnownBytes.{IsAtEnd}
use Rattle.sms_pdu.specs.declared.tap.Tap.{Tap}
use Rattle.sms_pdu.specs.Devices.{device, faults_of, failures_of}
use Rattle.sms_pdu.specs.Faults.{Counts, IsCounted}
use Rattle.sms_pdu.specs.Turn.{most_piece, GaveAtMost, Turned}
use Rattle.sms_bind.specs.declared.line.StopSeen.{StopSeen}
use Rattle.sms_bind.specs.declared.ending.ReaderCause.{ReaderCause}
use Rattle.sms_bind.specs.declared.ending.ReaderCause.TheVariants.{Ended, ReadFault, Stopped, Turns}

-- the reader was stopped before a turn, so at least one turn wasn't taken
pub record Stops (turns : ℕ) (before after : Option (List ℕ)) : Type 0 where
  pub some : 0 < turns
  pub most : GaveAtMost (most_piece * (turns - 1)) before after

-- n turns gave octets, each at least 1 and at most 65,536 (None: the input's octets are not known to contracts)
abbrev pub GaveEach : ℕ → Option (List ℕ) → Option (List ℕ) → Type 0
GaveEach n None after = Unit {0}
GaveEach n (Some xs) None = ⊥
GaveEach n (Some xs) (Some ys) = (length ys + n ≤ length xs) × (length xs ≤ length ys + most_piece * n)

-- exactly `turns` turns were taken: `errors` of them met an error and gave nothing, and each other one gave octets
pub record TookTurns (turns errors : ℕ) (before after : Option (List ℕ)) : Type 0 where
  pub few : errors ≤ turns
  pub gave : GaveEach (turns - errors) before after

-- What a reader's turns took from its input; `remaining` is what the input has left. `all` says that all turns were taken, and
-- `ended c` that the reader ended for the cause c.
pub record ReadSoFar {R : Type 0} (remaining : R → Option (List ℕ)) (turns errors : ℕ) (all : Type 0) (ended : ReaderCause → Type 0) (old new : Tap R) : Type 0 where
  -- at most `turns` turns were taken, of at most 65,536 octets each; exactly so many if all were taken
  pub turned : Turned turns all (remaining (device old)) (remaining (device new)) (faults_of old) (faults_of new)
  -- if all were taken, each of them met an error or gave octets
  pub took : faults_of old + turns < 2 ^ 64 → all → TookTurns turns errors (remaining (device old)) (remaining (device new))
  -- `errors` counts each error that the input returned meanwhile
  pub errors_counted : errors ≡ faults_of new - faults_of old
  pub grows : faults_of old ≤ faults_of new
  -- the reader saw before a turn that it was stopped
  pub stopped : (seen : StopSeen) → ended (Stopped seen) → Stops turns (remaining (device old)) (remaining (device new))
  -- the input ended: it has nothing left
  pub end : ended Ended → IsAtEnd (remaining (device new))
  -- a read failed: the input counted an error and a failure; a reader that ends for another cause counted no failure
  pub fault : ended ReadFault → IsCounted (faults_of old) (faults_of new)
  pub failed : ended ReadFault → Counts (failures_of old) (failures_of new)
  pub no_failure : ¬ ended ReadFault → failures_of new ≡ failures_of old

-- the reader took at most `turns` turns and ended for this cause
abbrev pub ReadUntil : {R : Type 0} → (R → Option (List ℕ)) → ℕ → ℕ → ReaderCause → Tap R → Tap R → Type 0
ReadUntil remaining turns errors cause old new = ReadSoFar remaining turns errors (cause ≡ Turns) (λ c. cause ≡ c) old new

-- one turn, which ended the reader if it gives a cause
abbrev pub ReadOnce : {R : Type 0} → (R → Option (List ℕ)) → Option ReaderCause → Tap R → Tap R → Type 0
ReadOnce remaining end old new = ReadSoFar remaining 1 (faults_of new - faults_of old) (end ≡ None) (λ c. end ≡ Some c) old new
