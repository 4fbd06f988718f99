-- What a reader's device keeps, and how its line is watched.
use Rattle.std.specs.Prelude.{◌≡◌, ◌≢◌, ℕ, ◌+◌, ◌≤◌, ◌<◌, ◌⊎◌, List, length, Option, Some, None, option_map}
use Rattle.sms_pdu.specs.Faults.{IsCounted}
use Rattle.sms_pdu.specs.Frame.{Division}
use Rattle.sms_session.specs.declared.enquiry.Look.{Look}
use Rattle.sms_session.specs.declared.enquiry.Look.TheVariants.{Wait, Ask, Silent as Quiet}
use Rattle.sms_session.specs.Enquiries.{Watch, asked_at, heard_at, looked}
use Rattle.sms_inbox.specs.Arrivals.{deliveries}
use Rattle.sms_bind.specs.declared.ending.ReaderCause.{ReaderCause}
use Rattle.sms_bind.specs.declared.ending.ReaderCause.TheVariants.{Ended, OutOfMemory, Silent}
use Rattle.sms_bind.specs.declared.reader.EnquiryNumber.{EnquiryNumber}
use Rattle.sms_bind.specs.declared.stream.Arrived.{Arrived}

abbrev pub octets_of : Arrived → List ℕ
octets_of arrived = arrived.octets.now

-- by which a line is asked
abbrev pub number_of : EnquiryNumber → ℕ
number_of n = n.number

-- of the deliver_sm among the whole frames of a stream each was kept once at most
abbrev pub KeptOnce : List ℕ → ℕ → ℕ → Type 0
KeptOnce stream old new = (frames : List (List ℕ)) (rest : List ℕ) → Division stream frames rest → new ≤ old + length (deliveries frames)

-- what is to be done with a line at a moment; one that isn't watched is waited for
abbrev pub IsLook : ℕ → Option Watch → Look → Type 0
IsLook now None look = (wait : ℕ) × (look ≡ Wait wait)
IsLook now (Some watch) look = look ≡ looked now watch

-- it is silent at a moment
abbrev pub IsQuiet : Option Watch → Type 0
IsQuiet watch = (now : ℕ) × IsLook now watch Quiet

abbrev pub IsHeard : Option Watch → Option Watch → Type 0
IsHeard old new = (now : ℕ) × (new ≡ option_map (heard_at now) old)

-- it was asked at a moment at which that was due
abbrev pub IsAsked : Option Watch → Option Watch → Type 0
IsAsked old new = (now : ℕ) × IsLook now old Ask × (new ≡ option_map (asked_at now) old)

-- What a turn does with the watch; `before` and `after` count the reads that gave nothing, and `end` is why the reader ends
pub record IsWatched (old new : Option Watch) (before after : ℕ) (end : Option ReaderCause) : Type 0 where
  -- octets came, and were taken
  pub heard : ¬ IsCounted before after → end ≢ Some Ended → end ≢ Some OutOfMemory → IsHeard old new
  -- none came
  pub quiet : before < after → (new ≡ old) ⊎ IsAsked old new
  pub silent : end ≡ Some Silent → IsQuiet new
