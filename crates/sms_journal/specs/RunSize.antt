-- The workers of a run. They are numbered through, bind by bind, and the messages are dealt out to all of them in turn.
use Rattle.std.specs.Prelude.{◌≡◌, ℕ, ◌*◌, ◌/◌, ◌%◌, ◌<◌, max}
use Rattle.sms_journal.specs.declared.notes.run_size.RunSize.{RunSize}

abbrev pub all_workers : RunSize → ℕ
all_workers size = size.binds * size.workers

-- the bind of a worker
abbrev pub bind_of : RunSize → ℕ → ℕ
bind_of size worker = worker / max size.workers 1

-- the message at this place is this worker's
pub record IsDealt (size : RunSize) (place worker : ℕ) : Type 0 where
  pub exists : worker < all_workers size
  pub turn : place % all_workers size ≡ worker
