use Rattle.std.proofs.Common.{ap, ◌∙◌}
use Rattle.sms_driver.proofs.Refusals.{of_dial}
use Rattle.sms_driver.proofs.binding.dial_and_bind.Goals as goal

pub returns-in-Err-clause-refused : goal.returns-in-Err-clause-refused
returns-in-Err-clause-refused g c =
    of_dial (g.D.Dial.refuses c.args.dial.now) (g.D.Dial.told c.args.dial.now) _ _ _ _ _ _ (ap g.D.Reader.Read.remaining c.new-reader.ensures.inner ∙ c.in_ok-reader.ensures.told) c.in-Err.ensures.failed c.fault_of.ensures
