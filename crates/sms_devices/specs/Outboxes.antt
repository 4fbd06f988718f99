-- What is put into an outbox: some of it was written to the connection, and the rest waits.
use Rattle.std.specs.Prelude.{◌≡◌, ℕ, Bool, List, Option, Result, Some, None, is_err, true}
use Rattle.std.specs.Option.{is_some}
use Rattle.std.specs.Io.Buffered.{writer_buffer, writer_contents}
use Rattle.std.specs.Io.KnownBytes.{WriteAppends}
use Rattle.sms_devices.specs.Places.{of_bind}
use Rattle.sms_devices.specs.declared.transport.buffered.Buffered.{Buffered}
use Rattle.sms_devices.specs.declared.transport.outbox.Outbox.{Outbox}
use Rattle.sms_devices.specs.declared.transport.outboxes.Outboxes.{Outboxes}

-- what waits to be written
abbrev pub waiting_in : {W : Type 0} → Buffered W → List ℕ
waiting_in buffered = writer_buffer buffered.writer

-- what was written, and after it what waits, if it is known what the connection was given
abbrev pub put_in : {W : Type 0} → (W → Option (List ℕ)) → Buffered W → Option (List ℕ)
put_in contents buffered = writer_contents contents buffered.writer

-- octets are put into the buffer of a connection: what isn't refused was written or waits, in order, and what is refused broke the buffer; where
-- there is no connection, they are refused
abbrev pub PutsInto : {W E : Type 0} → (W → Option (List ℕ)) → List ℕ → Option (Buffered W) → Option (Buffered W) → Result ℕ E → Type 0
PutsInto contents octets None None result = is_err result ≡ true
PutsInto contents octets (Some old) (Some new) result = WriteAppends (put_in contents old) (put_in contents new) result octets × (new.is_broken ≡ is_err result)
PutsInto contents octets None (Some new) result = ⊥
PutsInto contents octets (Some old) None result = ⊥

-- the outbox of a bind; none beyond the last bind
abbrev pub outbox_of : {R F : Type 0} → Outboxes R F → ℕ → Option (Outbox R F)
outbox_of o bind = of_bind o.each bind

-- whether the run of these outboxes has a journal, whose notes are written before any connection is
abbrev pub has_journal : {R F : Type 0} → Outboxes R F → Bool
has_journal o = is_some o.journal

-- how many workers each bind has
abbrev pub workers_of : {R F : Type 0} → Outboxes R F → ℕ
workers_of o = o.bells.workers
