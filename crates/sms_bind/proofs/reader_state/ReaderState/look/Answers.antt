use Rattle.std.proofs.Common.{subst}
use Rattle.sms_session.specs.declared.enquiry.Look.{Look}
use Rattle.sms_bind.specs.Devices.{IsLook}
use Rattle.sms_bind.proofs.reader_state.ReaderState.look.Goals as goal

-- that is due
pub ask-requires : goal.ask-requires
ask-requires g c = record { due = subst (λ (l : Look). IsLook c.look-now.result.0 (g.D.ReaderDevice.watch c.args.device.now) l) c.in-Ask.is c.look-now.ensures }

pub returns-in-Silent-clause-silent : goal.returns-in-Silent-clause-silent
returns-in-Silent-clause-silent g c = λ e. (c.look-now.result.0, subst (λ (l : Look). IsLook c.look-now.result.0 (g.D.ReaderDevice.watch c.args.device.now) l) c.in-Silent.is c.look-now.ensures)
