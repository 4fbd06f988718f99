use Rattle.sms_alphabet.proofs.Told.{exact}
use Rattle.sms_alphabet.proofs.reading.text_of.Goals as goal

pub returns-in-Gsm-clause-exact : goal.returns-in-Gsm-clause-exact
returns-in-Gsm-clause-exact c = exact c.args.coded.now _ (rw (c.in-Gsm.is, ← c.as_slice-units.ensures) c.gsm_text.ensures)

pub returns-in-Ucs2-clause-exact : goal.returns-in-Ucs2-clause-exact
returns-in-Ucs2-clause-exact c = exact c.args.coded.now _ (rw (c.in-Ucs2.is, ← c.as_slice-units.ensures) c.ucs2_text.ensures)
