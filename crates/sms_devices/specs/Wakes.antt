-- Which worker's request a sequence_number is, and whom the reader of a bind wakes by what comes in.
use Rattle.std.specs.Prelude.{◌≡◌, ℕ, ◌+◌, ◌*◌, ◌/◌, ◌%◌, ◌<◌, ◌==◌, ◌||◌, ◌++◌, ◌∷◌, Bool, List, [], Option, Some, None, true, false, nat_lt, replicate, slice_set, if◌then◌else◌}
use Rattle.std.specs.List.{slice_index_or}
use Rattle.sms_pdu.specs.Command.{id_of, is_response}
use Rattle.sms_pdu.specs.declared.command.Command.TheVariants.{GenericNack, SubmitSmResp}
use Rattle.sms_pdu.specs.declared.header.Header.{Header}
use Rattle.sms_devices.specs.Headers.{PartialFrame, events_in, after_octets}
use Rattle.sms_devices.specs.declared.waking.headers.FrameEvent.{FrameEvent}
use Rattle.sms_devices.specs.declared.waking.headers.FrameEvent.TheVariants.{Part, Frame, Bad}
use Rattle.sms_devices.specs.declared.waking.wakes.Wake.{Wake}
use Rattle.sms_devices.specs.declared.waking.wakes.Wake.TheVariants.{Nobody, Worker, All}
use Rattle.sms_devices.specs.declared.waking.wakes.Wakes.{Wakes}

-- the word that says that a number's request is a worker's
abbrev pub word_of : ℕ → ℕ → ℕ
word_of number worker = number * 256 + worker

-- whose request a number is by a word; none if the word is about another number
abbrev pub owner_in : ℕ → ℕ → Option ℕ
owner_in word number = if word / 256 == number then Some (word % 256) else None

-- only submit_sm_resp and generic_nack answer a request of a worker (SMPP 3.4 5.1.2.1)
abbrev pub is_answer : ℕ → Bool
is_answer command = command == id_of SubmitSmResp || command == id_of GenericNack

-- the worker, if it is known which
abbrev pub owner_or_all : Option ℕ → Wake
owner_or_all (Some worker) = Worker worker
owner_or_all None = All

-- whom a frame wakes, if this word stands in its number's place: a request of the message centre wakes nobody
abbrev pub wake_by : Header → ℕ → Wake
wake_by header word =
    if is_answer header.command then owner_or_all (owner_in word header.number)
    else (if is_response header.command then All else Nobody)

-- whom an event wakes: a bad length wakes all, since no frame can be found after it
abbrev pub wake_for : FrameEvent → ℕ → Wake
wake_for Part word = Nobody
wake_for (Frame header) word = wake_by header word
wake_for Bad word = All

-- nobody is to be woken
abbrev pub nobody : Wakes
nobody = record { all = false; workers = replicate 32 false }

-- those that were to be woken, and this one too; there are at most 32 workers
abbrev pub and_this : Wakes → Wake → Wakes
and_this w Nobody = w
and_this w All = record { all = true; workers = w.workers }
and_this w (Worker worker) = if nat_lt worker 32 then record { all = w.all; workers = slice_set w.workers worker true } else w

-- each of these events in turn adds whom it wakes, and nobody else is added. The word of each is not known: another thread may write it
abbrev pub Woke : List FrameEvent → Wakes → Wakes → Type 0
Woke [] old new = new ≡ old
Woke (p ∷ ps) old new = (word : ℕ) × Woke ps (and_this old (wake_for p word)) new

-- those whom a wake means are to be woken; only the first 32 workers have a bell
abbrev pub Includes : Wakes → Wake → Type 0
Includes w Nobody = Unit {0}
Includes w All = w.all ≡ true
Includes w (Worker worker) = worker < 32 → slice_index_or w.workers worker false ≡ true

-- one of these events wakes them, by some word
pub record Concerns (ps : List FrameEvent) (wake : Wake) : Type 0 where
  pub before : List FrameEvent
  pub one : FrameEvent
  pub after : List FrameEvent
  pub word : ℕ
  pub among : ps ≡ before ++ one ∷ after
  pub whom : wake_for one word ≡ wake

-- the first of these octets were looked at, and the others are left: the partial frame and those to be woken, before and after
pub record Scanned (octets left : List ℕ) (was is : PartialFrame) (old new : Wakes) : Type 0 where
  pub front : List ℕ
  pub whole : octets ≡ front ++ left
  pub headers : is ≡ after_octets was front
  pub woken : Woke (events_in was front) old new
