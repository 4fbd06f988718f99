-- When the requests of parts were written to their connections, and answered, by notes and their times. A worker uses its numbers anew in
-- each round, so the answer to a request is the first behind it, in its round.
use Rattle.std.specs.Prelude.{◌≡◌, ℕ, ◌+◌, ◌*◌, ◌<◌, ◌==◌, ◌&&◌, nat_eq, List, [], ◌∷◌, Option, Some, None, unwrap_or, if◌then◌else◌}
use Rattle.std.specs.HashMap.{HashMap, get}
use Rattle.sms_journal.specs.declared.notes.note.Note.{Note}
use Rattle.sms_journal.specs.declared.notes.note.Note.TheVariants.{Begun, Sent, Unsent, Heard, Refused, End, Round}
use Rattle.sms_journal.specs.declared.bill.moments.Moments.{Moments}
use Rattle.sms_journal.specs.Recovered.{or_else}

-- ---- the answer to a request

-- what a note says of a request, before what those behind it say: Some None that it was not written, Some that it was answered then
abbrev pub answer_by : ℕ → ℕ → ℕ → Note → Option (Option ℕ) → Option (Option ℕ)
answer_by worker number time (Begun m) behind = behind
answer_by worker number time (Sent request m p) behind = behind
answer_by worker number time (Unsent request) behind = if request.worker == worker && (request.number == number) then Some None else behind
answer_by worker number time (Heard by reply) behind = if by == worker && (reply.number == number) then Some (Some time) else behind
answer_by worker number time (Refused m refusal) behind = behind
answer_by worker number time (End status) behind = behind
answer_by worker number time (Round next binds workers) behind = None

-- what these notes, with their times, say of it first, in the round in which they begin
abbrev pub answer_in : ℕ → ℕ → List ℕ → List Note → Option (Option ℕ)
answer_in worker number [] notes = None
answer_in worker number (time ∷ times) [] = None
answer_in worker number (time ∷ times) (note ∷ notes) = answer_by worker number time note (answer_in worker number times notes)

-- the answer to the request of a note, by those behind it
abbrev pub answer_to : List ℕ → List Note → Note → Option (Option ℕ)
answer_to times notes (Begun m) = None
answer_to times notes (Sent request m p) = answer_in request.worker request.number times notes
answer_to times notes (Unsent request) = None
answer_to times notes (Heard by reply) = None
answer_to times notes (Refused m refusal) = None
answer_to times notes (End status) = None
answer_to times notes (Round next binds workers) = None

-- ---- the moments of a part

-- a request was written then and answered so, unless it was not written
abbrev pub moments_by : ℕ → Option (Option ℕ) → Option Moments
moments_by time None = Some (record { sent = Some time; heard = None })
moments_by time (Some None) = None
moments_by time (Some (Some heard)) = Some (record { sent = Some time; heard = Some heard })

-- those of the request for this part that a note is of
abbrev pub moments_in : Option (Option ℕ) → ℕ → ℕ → ℕ → Note → Option Moments
moments_in answer m p time (Begun m') = None
moments_in answer m p time (Sent request m' p') = if m' == m && (p' == p) then moments_by time answer else None
moments_in answer m p time (Unsent request) = None
moments_in answer m p time (Heard by reply) = None
moments_in answer m p time (Refused m' refusal) = None
moments_in answer m p time (End status) = None
moments_in answer m p time (Round next binds workers) = None

-- those of the last request for it that was written
abbrev pub last_moments : ℕ → ℕ → List ℕ → List Note → Option Moments
last_moments m p [] notes = None
last_moments m p (time ∷ times) [] = None
last_moments m p (time ∷ times) (note ∷ notes) = or_else (last_moments m p times notes) (moments_in (answer_to times notes note) m p time note)

abbrev pub no_moments : Moments
no_moments = record { sent = None; heard = None }

abbrev pub moments_of : List ℕ → List Note → ℕ → ℕ → Moments
moments_of times notes m p = unwrap_or (last_moments m p times notes) no_moments

-- ---- found by keys

-- a number is below 2^32, and the place of a part below 2^64, so that keys are distinct
abbrev pub AreAnswers : {S : Type 0} → List ℕ → List Note → HashMap ℕ (Option ℕ) S → Type 0
AreAnswers times notes answers = (worker number : ℕ) → number < 4294967296 → get nat_eq answers (worker * 4294967296 + number) ≡ answer_in worker number times notes

abbrev pub AreMoments : {S : Type 0} → List ℕ → List Note → HashMap ℕ Moments S → Type 0
AreMoments times notes moments = (m p : ℕ) → p < 18446744073709551616 → get nat_eq moments (m * 18446744073709551616 + p) ≡ last_moments m p times notes
