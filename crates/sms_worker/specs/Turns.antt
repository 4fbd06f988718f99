-- What the steps of a turn do, and what they leave to be sent.
use Rattle.std.specs.Prelude.{◌≡◌, ℕ, zero, suc, ◌+◌, ◌-◌, ◌^◌, ◌≤◌, ◌⊎◌, Bool, IsTrue, true, false, List, [], ◌∷◌, ◌++◌, length, None, Some, min}
use Rattle.sms_worker.specs.declared.steps.attempt.TrySend.{TrySend}
use Rattle.sms_worker.specs.declared.steps.attempt.TrySend.TheVariants.{Sent, Retry, GiveUp}
use Rattle.sms_worker.specs.declared.steps.give_up.GiveUpReason.{GiveUpReason}
use Rattle.sms_worker.specs.declared.steps.give_up.GiveUpReason.TheVariants.{Done, Gate, Kept, Line, Memory, Numbers}
use Rattle.sms_worker.specs.Types.{MessageEnd, SegmentEnd}
use Rattle.sms_worker.specs.declared.state.open.Open.{Open}
use Rattle.sms_worker.specs.declared.state.open.SegmentPlace.{SegmentPlace}
use Rattle.sms_worker.specs.declared.steps.starting.Idle.{Idle}
use Rattle.sms_worker.specs.declared.steps.starting.Idle.TheVariants.{Closed, AllBegun, Waits}
use Rattle.sms_worker.specs.declared.steps.starting.Started.{Started}
use Rattle.sms_worker.specs.declared.steps.starting.Started.TheVariants.{One, Nothing}
use Rattle.sms_message.specs.Ends.{segment_at, put}
use Rattle.sms_worker.specs.Queues.{IsFirstDue, IsTaken, NoneIsDue}
use Rattle.sms_worker.specs.Rising.{HasNext, IsNext, IsThere}
use Rattle.sms_worker.specs.RunState.{RunState}
use Rattle.sms_worker.specs.Start.{Start}
use Rattle.sms_worker.specs.Sweeps.{SweptAt}
use Rattle.sms_worker.specs.PendingState.{LeavesPending, data_at}
use Rattle.sms_message.specs.Results.{IsSettled}

-- the segment at the place was sent with this number, and nothing else changed
pub record SentAt (n : ℕ) (place : SegmentPlace) (old new : List MessageEnd) : Type 0 where
  pub segment : SegmentEnd
  pub was : segment_at old place.message place.part ≡ Some segment
  pub octets : List ℕ
  pub now : new ≡ put old place.message place.part (record segment { attempts = segment.attempts ++ record { number = n; sent = octets; reply = None } ∷ [] })

-- nothing of the segment is to be sent: there is no such segment, or it is settled
abbrev pub IsOver : ℕ → SegmentPlace → List MessageEnd → Type 0
IsOver most place es = (segment_at es place.message place.part ≡ None) ⊎ ((s : SegmentEnd) × (segment_at es place.message place.part ≡ Some s) × IsSettled most s)

-- a segment that is given up without a try is one of which nothing is kept
abbrev pub IsGivenUp : GiveUpReason → SegmentPlace → RunState → Type 0
IsGivenUp (Kept evidence) place run = data_at run.pending place ≡ None
IsGivenUp (Done evidence) place run = ⊥
IsGivenUp (Numbers all) place run = Unit {0}
IsGivenUp (Memory evidence) place run = Unit {0}
IsGivenUp (Gate evidence) place run = Unit {0}
IsGivenUp (Line evidence) place run = Unit {0}

-- a try to send the segment: it was sent, and its request is open behind the others; else all is as it was
abbrev pub IsTry : TrySend → SegmentPlace → RunState → RunState → Type 0
IsTry (Sent n) place old new = SentAt n place old.ends new.ends × ((o : Open) × (o.number ≡ n) × (o.place ≡ place) × (new ≡ record old { ends = new.ends; opened = old.opened ++ o ∷ [] }))
IsTry (Retry held) place old new = new ≡ old
IsTry (GiveUp why) place old new = (new ≡ old) × IsGivenUp why place old

-- the segment was sent, or given up
abbrev pub IsTried : ℕ → SegmentPlace → List MessageEnd → List MessageEnd → Type 0
IsTried most place old new = ((n : ℕ) × SentAt n place old new) ⊎ SweptAt most place.message place.part old new

-- the segment that is due before all others by this time was tried, and left its queue
pub record TriesRetry (most now : ℕ) (old new : RunState) : Type 0 where
  pub place : SegmentPlace
  pub queue : ℕ
  pub due : IsFirstDue old.pending old.queues now place queue
  pub taken : IsTaken old.pending queue old.queues new.queues
  pub next : new.next ≡ old.next
  pub pending : LeavesPending place.message old.pending new.pending
  pub tried : IsTried most place old.ends new.ends

-- none is due, and the next part of the last message was tried
pub record TriesNext (most now : ℕ) (old new : RunState) : Type 0 where
  pub quiet : NoneIsDue old.pending old.queues now
  pub place : SegmentPlace
  pub is : IsNext old.ends old.next place
  pub there : IsThere old.ends place
  pub queues : new.queues ≡ old.queues
  pub next : new.next ≡ min (old.next + 1) (2 ^ 64 - 1)
  pub pending : LeavesPending place.message old.pending new.pending
  pub tried : IsTried most place old.ends new.ends

-- none is due and all parts were tried, and a message was begun
pub record BeginsNext (now : ℕ) (old new : RunState) : Type 0 where
  pub quiet : NoneIsDue old.pending old.queues now
  pub all : ¬ HasNext old.ends old.next
  pub queues : new.queues ≡ old.queues
  pub next : new.next ≡ 0
  pub more : length new.ends ≡ length old.ends + 1

-- the segment whose turn it is by this time: the first that is due, else the next of the last message
abbrev pub IsTurn : ℕ → RunState → SegmentPlace → Type 0
IsTurn now run place = ((queue : ℕ) × IsFirstDue run.pending run.queues now place queue) ⊎ (NoneIsDue run.pending run.queues now × IsNext run.ends run.next place × IsThere run.ends place)

-- why nothing was started: the line was seen down, and a segment is to be sent; or none is, and all messages are begun; or the one whose turn it is was tried, and waits
abbrev pub IsIdle : Start → ℕ → Idle → RunState → RunState → Type 0
IsIdle start now Closed old new = IsTrue new.closed × ((place : SegmentPlace) × IsTurn now old place)
IsIdle start now AllBegun old new = NoneIsDue old.pending old.queues now × (¬ HasNext old.ends old.next) × (length old.ends ≡ length start.messages)
IsIdle start now (Waits held) old new = (place : SegmentPlace) × IsTurn now old place

-- what a step did; one that started nothing touched nothing, but that it may have seen the line down
abbrev pub IsStep : Start → ℕ → Started → RunState → RunState → Type 0
IsStep start now One old new = TriesRetry start.rules.policy.attempts now old new ⊎ TriesNext start.rules.policy.attempts now old new ⊎ BeginsNext now old new
IsStep start now (Nothing why) old new = (new ≡ record old { closed = new.closed }) × IsIdle start now why old new

-- so many steps that started something, by one time
abbrev pub AreSteps : Start → ℕ → ℕ → RunState → RunState → Type 0
AreSteps start now zero old new = new ≡ old
AreSteps start now (suc n) old new = (mid : RunState) × AreSteps start now n old mid × IsStep start now One mid new

abbrev pub are_some : ℕ → Bool
are_some zero = false
are_some (suc n) = true

-- a turn makes no more starts
abbrev pub most_starts : ℕ
most_starts = 65536

-- why no more was started behind so many steps: a step started nothing; or as many requests are open as may be, or a turn makes no more starts
abbrev pub Stops : Start → ℕ → ℕ → RunState → RunState → Type 0
Stops start now count last new = ((why : Idle) × IsStep start now (Nothing why) last new) ⊎ ((new ≡ last) × ((start.rules.depth ≤ length last.opened) ⊎ (count ≡ most_starts)))

-- all that was started, if any was
pub record Starts (start : Start) (any : Bool) (old new : RunState) : Type 0 where
  pub now : ℕ
  pub count : ℕ
  pub last : RunState
  pub steps : AreSteps start now count old last
  pub rest : Stops start now count last new
  pub some : any ≡ are_some count
