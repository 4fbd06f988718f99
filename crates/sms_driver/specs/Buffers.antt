-- Memory that is taken before the first bind, for what a sending ends with.
use Rattle.std.specs.Prelude.{◌≡◌, ◌≤◌, ℕ, [], Vec, vec_capacity}
use Rattle.std.specs.declared.alloc.Global.{Global}
use Rattle.sms_driver.specs.declared.ending.buffers.Parts.{Parts}
use Rattle.sms_driver.specs.declared.ending.buffers.Buffers.{Buffers}

-- an empty vector with room for this many items
abbrev pub IsFree : {T : Type 0} → ℕ → Vec T Global → Type 0
IsFree n v = (v.items ≡ []) × (n ≤ vec_capacity v)

-- room for what this many workers give back
pub record ArePartsFor {N : Type 0} (workers : ℕ) (parts : Parts N) : Type 0 where
  pub shares : IsFree workers parts.shares
  pub ends : IsFree workers parts.ends
  pub seats : IsFree workers parts.seats
  pub consumers : IsFree workers parts.consumers
  pub causes : IsFree workers parts.causes
  pub reasons : IsFree workers parts.reasons

-- room for the ends of this many messages, and for what this many workers and binds leave; each worker has one ring
pub record AreBuffersFor {N : Type 0} (messages workers binds : ℕ) (buffers : Buffers N) : Type 0 where
  pub parts : ArePartsFor workers buffers.parts
  pub producers : IsFree workers buffers.ring_ends.producers
  pub readers : IsFree binds buffers.ring_ends.readers
  pub bind_ends : IsFree binds buffers.bind_ends
  pub message_ends : IsFree messages buffers.message_ends
