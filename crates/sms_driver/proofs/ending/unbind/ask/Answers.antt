use Rattle.sms_driver.proofs.ending.unbind.ask.Goals as goal

pub returns-in-Err-clause-down : goal.returns-in-Err-clause-down
returns-in-Err-clause-down g c was is = absurd (c.number_for.ensures.looked was cc)
