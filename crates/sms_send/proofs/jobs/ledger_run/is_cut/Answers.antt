use Rattle.sms_send.proofs.Returned.{unread_journal}
use Rattle.sms_send.proofs.jobs.ledger_run.is_cut.Goals as goal

pub returns-in-Err-octets_of-clause-refused : goal.returns-in-Err-octets_of-clause-refused
returns-in-Err-octets_of-clause-refused g c = unread_journal (g.R.InputFiles.finds c.args.rt.now) c.in-Ok.name c.args.journal.now c.in-Err-octets_of.fault c.in-Ok.ensures.ok c.in-Err-octets_of.ensures.refused
