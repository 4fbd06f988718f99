use Rattle.std.proofs.Common.{inr}
use Rattle.sms_bind.proofs.reader_state.ReaderState.ask.Goals as goal

pub returns-clause-quiet : goal.returns-clause-quiet
returns-clause-quiet g c = inr (c.args.now, c.requires.due, c.asked.ensures.watch)
