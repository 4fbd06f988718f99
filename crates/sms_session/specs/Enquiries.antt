-- When a line that idles is asked, and when it is silent. Moments are milliseconds of a clock that doesn't go back.
use Rattle.std.specs.Prelude.{◌≡◌, ℕ, ◌-◌, ◌≤◌, nat_le, List, [], ◌∷◌, Option, Some, None, if◌then◌else◌}
use Rattle.sms_session.specs.declared.enquiry.Look.{Look}
use Rattle.sms_session.specs.declared.enquiry.Look.TheVariants.{Wait, Ask, Silent}

-- how long it may idle and how long an answer may take; when the last octets came, and when it was asked since
pub record Watch : Type 0 where
  pub idle_ms : ℕ
  pub answer_ms : ℕ
  pub heard : ℕ
  pub asked : Option ℕ

abbrev pub begun : ℕ → ℕ → ℕ → Watch
begun idle_ms answer_ms now = record { idle_ms = idle_ms; answer_ms = answer_ms; heard = now; asked = None }

abbrev pub heard_at : ℕ → Watch → Watch
heard_at now w = record { idle_ms = w.idle_ms; answer_ms = w.answer_ms; heard = now; asked = None }

abbrev pub asked_at : ℕ → Watch → Watch
asked_at now w = record { idle_ms = w.idle_ms; answer_ms = w.answer_ms; heard = w.heard; asked = Some now }

-- what is left of a time
abbrev pub left_of : ℕ → ℕ → ℕ → Option ℕ
left_of limit since now = if nat_le limit (now - since) then None else Some (limit - (now - since))

abbrev pub unasked : Option ℕ → Look
unasked None = Ask
unasked (Some wait) = Wait wait

abbrev pub unanswered : Option ℕ → Look
unanswered None = Silent
unanswered (Some wait) = Wait wait

abbrev pub look_by : Watch → Option ℕ → ℕ → Look
look_by w None now = unasked (left_of w.idle_ms w.heard now)
look_by w (Some at) now = unanswered (left_of w.answer_ms at now)

abbrev pub looked : ℕ → Watch → Look
looked now w = look_by w w.asked now

-- ---- over all that happens on a line

pub data Event : Type 0 where
  -- octets came
  Came : ℕ → Event
  -- it was looked at, and asked where that was due
  Looked : ℕ → Event

abbrev pub asked_if : Look → ℕ → Watch → Watch
asked_if Ask now w = asked_at now w
asked_if Silent now w = w
asked_if (Wait wait) now w = w

abbrev pub after : Event → Watch → Watch
after (Came now) w = heard_at now w
after (Looked now) w = asked_if (looked now w) now w

abbrev pub run : List Event → Watch → Watch
run [] w = w
run (e ∷ es) w = run es (after e w)

-- a watch that stands so was asked, if at all, after it had idled for long enough
abbrev pub WasDue : Watch → Option ℕ → Type 0
WasDue w None = Unit {0}
WasDue w (Some at) = w.idle_ms ≤ at - w.heard

-- what follows from being silent, and from being asked
pub record IsSilentSince (w : Watch) (now : ℕ) : Type 0 where
  pub at : ℕ
  pub was_asked : w.asked ≡ Some at
  pub idled : w.idle_ms ≤ at - w.heard
  pub waited : w.answer_ms ≤ now - at

pub record IsToBeAsked (w : Watch) (now : ℕ) : Type 0 where
  pub once : w.asked ≡ None
  pub idled : w.idle_ms ≤ now - w.heard

abbrev pub SilentWereAsked : Type 0
SilentWereAsked = (idle_ms answer_ms made now : ℕ) (events : List Event)
    → (looked now (run events (begun idle_ms answer_ms made)) ≡ Silent → IsSilentSince (run events (begun idle_ms answer_ms made)) now)
    × (looked now (run events (begun idle_ms answer_ms made)) ≡ Ask → IsToBeAsked (run events (begun idle_ms answer_ms made)) now)
