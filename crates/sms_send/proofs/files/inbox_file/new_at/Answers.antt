use Rattle.sms_send.proofs.files.inbox_file.new_at.Goals as goal

pub returns-in-Err-empty_file-clause-refused : goal.returns-in-Err-empty_file-clause-refused
returns-in-Err-empty_file-clause-refused g c = c.unmade.ensures.fault c.args.config.now
