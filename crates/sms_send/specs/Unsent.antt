-- How many messages were not sent since their bind was closed, or since memory was refused.
use Rattle.std.specs.Prelude.{ℕ, ◌+◌, ◌/◌, ◌%◌, ◌==◌, ◌&&◌, nat_lt, if◌then◌else◌, Bool, true, false, List, [], ◌∷◌}
use Rattle.sms_worker.specs.Types.{MessageEnd, MessageResult}
use Rattle.sms_message.specs.declared.ends.MessageRefusal.{MessageRefusal}
use Rattle.sms_message.specs.declared.ends.MessageRefusal.TheVariants.{BindClosed, OutOfMemory}
use Rattle.sms_message.specs.declared.ends.MessageResult.TheVariants.{Refused, Sent}

-- a message was refused for this
abbrev pub is_closing : MessageRefusal → Bool
is_closing BindClosed = true
is_closing _ = false

abbrev pub is_memory : MessageRefusal → Bool
is_memory OutOfMemory = true
is_memory _ = false

abbrev pub is_bind_closed : MessageResult → Bool
is_bind_closed (Sent segments) = false
is_bind_closed (Refused refusal) = is_closing refusal

abbrev pub kept_by_memory : MessageResult → Bool
kept_by_memory (Sent segments) = false
kept_by_memory (Refused refusal) = is_memory refusal

-- messages are dealt out to all workers in turn, bind by bind: so many go to each bind in one piece
abbrev pub is_of_bind : ℕ → ℕ → ℕ → ℕ → Bool
is_of_bind workers binds bind place = nat_lt 0 workers && (nat_lt 0 binds && (place / workers % binds == bind))

-- the message at a place is one of a bind's, and was refused since that was closed
abbrev pub is_kept_by : ℕ → ℕ → ℕ → ℕ → MessageEnd → Bool
is_kept_by workers binds bind place e = is_of_bind workers binds bind place && is_bind_closed e.result

-- how many of a bind's messages were refused since it was closed, of those from a place on
abbrev pub unsent_from : ℕ → ℕ → ℕ → ℕ → List MessageEnd → ℕ
unsent_from workers binds bind place [] = 0
unsent_from workers binds bind place (e ∷ es) = (if is_kept_by workers binds bind place e then 1 else 0) + unsent_from workers binds bind (place + 1) es

-- how many messages were refused since memory was
abbrev pub without_memory : List MessageEnd → ℕ
without_memory [] = 0
without_memory (e ∷ es) = (if kept_by_memory e.result then 1 else 0) + without_memory es
