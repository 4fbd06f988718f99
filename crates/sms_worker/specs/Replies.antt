-- What a reply does that is applied to its request.
use Rattle.std.specs.Prelude.{◌≡◌, ◌==◌, ℕ, zero, suc, ◌+◌, ◌-◌, ◌≤◌, ◌⊎◌, List, ◌∷◌, ◌++◌, [], Bool, None, Option, Some, drop, length, position, slice_get, take}
use Rattle.sms_pdu.specs.declared.reply.Reply.{Reply}
use Rattle.sms_session.specs.declared.policy.Decision.{Decision}
use Rattle.sms_session.specs.declared.policy.Decision.TheVariants.{Charge, Refuse, RetryAfter}
use Rattle.sms_session.specs.Decisions.{decided}
use Rattle.sms_slot.specs.Slot.{IsNotAnswered}
use Rattle.sms_worker.specs.declared.steps.ring.RingEmpty.{RingEmpty}
use Rattle.sms_worker.specs.declared.steps.replies.ReplyOutcome.{ReplyOutcome}
use Rattle.sms_worker.specs.declared.steps.replies.ReplyOutcome.TheVariants as applied
use Rattle.sms_worker.specs.declared.steps.replies.ReplyOutcome.TheVariants.{Settled, Retried}
use Rattle.sms_worker.specs.declared.steps.replies.Dropped.{Dropped}
use Rattle.sms_worker.specs.declared.steps.replies.Dropped.TheVariants.{NoneOpen, NotAnswered, NotAwaited}
use Rattle.sms_worker.specs.declared.state.open.Open.{Open}
use Rattle.sms_message.specs.declared.rules.Rules.{Rules}
use Rattle.sms_worker.specs.Expiry.{without_open}
use Rattle.sms_worker.specs.Queues.{WaitsLast, due_after}
use Rattle.sms_worker.specs.RunState.{RunState}
use Rattle.sms_worker.specs.Steps.{ExpectsAt, SettlesTo}
use Rattle.sms_worker.specs.PendingState.{changed, settled_one}
use Rattle.sms_worker.specs.Turns.{are_some}

-- the first open request with its number took the reply, and is open no more; its segment is settled, or waits to be sent again, as the rules decide
pub record Applies (rules : Rules) (reply : Reply) (decision : Decision) (old new : RunState) : Type 0 where
  pub i : ℕ
  pub request : Open
  pub found : position (λ o. o.number == reply.number) old.opened ≡ Some i
  pub there : slice_get old.opened i ≡ Some request
  pub opened : new.opened ≡ take i old.opened ++ drop (suc i) old.opened
  pub attempts : ℕ
  pub is : decision ≡ decided reply attempts rules.policy.attempts rules.policy.base_ms
  pub settles : SettlesTo old.ends request.place attempts decision new.ends

-- the first open request with the reply's number
pub record IsFirstOpen (reply : Reply) (i : ℕ) (request : Open) (run : RunState) : Type 0 where
  pub found : position (λ o. o.number == reply.number) run.opened ≡ Some i
  pub there : slice_get run.opened i ≡ Some request

-- Why a reply was dropped, which was replies: no open request has its number; or the slot of the first that has it was asked, and had no answer to
-- it; else that request is open no more, and the last attempt of its segment doesn't wait for the reply
abbrev pub IsDropped : Reply → Dropped → RunState → RunState → Type 0
IsDropped reply NoneOpen old new = (new ≡ record old { replies = new.replies }) × (position (λ o. o.number == reply.number) old.opened ≡ None)
IsDropped reply (NotAnswered evidence) old new = (new ≡ record old { replies = new.replies }) × ((i : ℕ) × (request : Open) × IsFirstOpen reply i request old × IsNotAnswered request.slot request.number evidence)
IsDropped reply NotAwaited old new = (i : ℕ) × (request : Open) × IsFirstOpen reply i request old × (new ≡ record (without_open i old) { replies = new.replies }) × (¬ ExpectsAt old.ends request.place reply)

-- a segment that is to be sent again waits last in the queue of its attempts, and is due so long after the time that was read
abbrev pub IsApplied : Rules → Reply → ReplyOutcome → RunState → RunState → Type 0
IsApplied rules reply (applied.Dropped why) old new = IsDropped reply why old new
IsApplied rules reply Settled old new = (decision : Decision) × (b : Applies rules reply decision old new) × ((decision ≡ Charge) ⊎ (decision ≡ Refuse)) × (new.pending ≡ changed settled_one old.pending b.request.place.message) × (new.queues ≡ old.queues)
IsApplied rules reply (Retried at) old new = (ms : ℕ) × (b : Applies rules reply (RetryAfter ms) old new)
    × (1 ≤ b.attempts → b.attempts ≤ 10 → WaitsLast old.pending old.queues (b.attempts - 1) (record { place = b.request.place; due_ms = due_after at.at_ms ms }) new.pending new.queues)

-- so many replies, each replies behind those before and applied
abbrev pub AreApplied : Rules → ℕ → RunState → RunState → Type 0
AreApplied rules zero old new = new ≡ old
AreApplied rules (suc n) old new = (mid : RunState) × (reply : Reply) × (did : ReplyOutcome) × AreApplied rules n old mid × (new.replies ≡ mid.replies ++ reply ∷ []) × IsApplied rules reply did mid new

-- why no more were taken of a ring from which so many replies had come: behind so many more it was found empty, or as many more came as it has room for
abbrev pub WasDrained : ℕ → Option RingEmpty → List Reply → List Reply → Type 0
WasDrained before None known received = before + 64 ≤ length received
WasDrained before (Some empty) known received = (known ≡ []) × (length received ≡ before + empty.taken)

abbrev pub HasDrained : ℕ → List Reply → List Reply → Type 0
HasDrained before known received = (empty : Option RingEmpty) × WasDrained before empty known received

-- all that were replies, if any was
pub record AllApplied (rules : Rules) (any : Bool) (old new : RunState) : Type 0 where
  pub count : ℕ
  pub each : AreApplied rules count old new
  pub some : any ≡ are_some count
