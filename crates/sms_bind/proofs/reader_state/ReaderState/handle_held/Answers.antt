use Rattle.std.proofs.Common.{ℕ, List, subst}
use Rattle.sms_bind.specs.Devices.{KeptOnce}
use Rattle.sms_bind.proofs.reader_state.ReaderState.handle_held.Goals as goal

pub returns-in-Some-clause-once : goal.returns-in-Some-clause-once
returns-in-Some-clause-once g c =
    subst (λ (s : List ℕ). KeptOnce s (g.D.ReaderDevice.kept c.args.device.now) (g.D.ReaderDevice.kept c.keep-keeping.new.self)) c.as_slice-stream.ensures.value c.keep-keeping.ensures.once

pub returns-then-is_bad-clause-once : goal.returns-then-is_bad-clause-once
returns-then-is_bad-clause-once g c =
    subst (λ (s : List ℕ). KeptOnce s (g.D.ReaderDevice.kept c.args.device.now) (g.D.ReaderDevice.kept c.keep-keeping.new.self)) c.as_slice-stream.ensures.value c.keep-keeping.ensures.once

pub returns-clause-once : goal.returns-clause-once
returns-clause-once g c =
    subst (λ (s : List ℕ). KeptOnce s (g.D.ReaderDevice.kept c.args.device.now) (g.D.ReaderDevice.kept c.keep-keeping.new.self)) c.as_slice-stream.ensures.value
    c.keep-keeping.ensures.once
