-- For how long nothing is to be done by the clock alone.
use Rattle.std.specs.Prelude.{◌≡◌, ◌-◌, ◌^◌, ◌<◌, ◌≤◌, ◌⊎◌, ℕ, Bool, true, false, List, [], ◌∷◌, length, min, Some}
use Rattle.sms_message.specs.declared.message.Message.{Message}
use Rattle.sms_worker.specs.declared.state.open.Open.{Open}
use Rattle.sms_worker.specs.declared.state.open.SegmentPlace.{SegmentPlace}
use Rattle.sms_worker.specs.declared.state.queue.Queue.{Queue}
use Rattle.sms_message.specs.declared.rules.Rules.{Rules}
use Rattle.sms_worker.specs.Queues.{due_at, first_in}
use Rattle.sms_worker.specs.RunState.{HasMore, RunState}
use Rattle.sms_worker.specs.PendingState.{PendingState}

-- what is told of what never comes
abbrev pub never : ℕ
never = 2 ^ 64 - 1

-- how long it is until the first of the open requests has waited for so long
abbrev pub answer_in : ℕ → ℕ → List Open → ℕ
answer_in limit now [] = never
answer_in limit now (o ∷ opened) = limit - (now - o.since.at_ms)

-- so long it is until the first segment of some queue is due, and that of no other is due before; or no queue has one
pub record IsDueIn (pending : List PendingState) (qs : List Queue) (now ms : ℕ) : Type 0 where
  pub least : (j : ℕ) (place : SegmentPlace) → first_in qs j ≡ Some place → ms ≤ due_at pending place - now
  pub own : (ms ≡ never) ⊎ ((j : ℕ) × (place : SegmentPlace) × (first_in qs j ≡ Some place) × (ms ≡ due_at pending place - now))

-- at this time: with as many open requests as there may be an answer is waited for; a part or a message that wasn't tried yet is not
-- waited for; else an answer is waited for, or a segment that is to be sent again
pub record IsQuietAt (ms : List Message) (rules : Rules) (run : RunState) (now quiet : ℕ) : Type 0 where
  pub full : rules.depth ≤ length run.opened → quiet ≡ answer_in rules.answer_ms now run.opened
  pub more : length run.opened < rules.depth → HasMore ms run → quiet ≡ 0
  pub rest : length run.opened < rules.depth → ¬ (HasMore ms run) → (due : ℕ) × IsDueIn run.pending run.queues now due × (quiet ≡ min (answer_in rules.answer_ms now run.opened) due)

-- a line that is down isn't waited for; else it is so at this time
abbrev pub IsQuiet : List Message → Rules → Bool → RunState → ℕ → ℕ → Type 0
IsQuiet ms rules true run now quiet = quiet ≡ 0
IsQuiet ms rules false run now quiet = IsQuietAt ms rules run now quiet
