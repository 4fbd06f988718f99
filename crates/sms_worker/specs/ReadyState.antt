-- A worker that is ready, as contracts see it.
use Rattle.std.specs.Prelude.{ℕ, List}
use Rattle.sms_message.specs.declared.message.Message.{Message}
use Rattle.sms_worker.specs.declared.entry.work.Worker.{Worker}

-- what it was given, and for how many open requests it has room
pub record ReadyState (N : Type 0) : Type 0 where
  pub worker : Worker N
  pub messages : List Message
  pub room : ℕ
