use Rattle.std.proofs.Common.{inl, inr}
use Rattle.sms_bind.proofs.reader_state.ReaderState.failed.Goals as goal

pub returns-then-gave_nothing-clause-one : goal.returns-then-gave_nothing-clause-one
returns-then-gave_nothing-clause-one g c = elim c.look.ensures.one [ inl e ↦ inl e | inr e ↦ inr (inr e) ]
