use Rattle.sms_bind.proofs.reader.read_loop.Goals as goal

-- nobody watches over the line
pub returns-clause-loud : goal.returns-clause-loud
returns-clause-loud g c = λ e. let (now, (wait, is)) = c.read_all-end.ensures.silent e in absurd cc
