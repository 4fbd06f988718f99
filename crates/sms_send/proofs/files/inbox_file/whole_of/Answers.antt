use Rattle.sms_send.proofs.InboxFiles.{bad_early, bad_file}
use Rattle.sms_send.proofs.files.inbox_file.whole_of.Goals as goal

pub returns-in-Err-clause-refused : goal.returns-in-Err-clause-refused
returns-in-Err-clause-refused c = bad_file c.args.octets.now c.in-Err.fault c.in-Err.ensures.refused

pub returns-in-Err-clause-early : goal.returns-in-Err-clause-early
returns-in-Err-clause-early c = bad_early c.args.octets.now c.in-Err.fault c.in-Err.ensures.refused
