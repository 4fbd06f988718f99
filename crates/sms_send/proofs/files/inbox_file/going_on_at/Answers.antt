use Rattle.sms_send.proofs.files.inbox_file.going_on_at.Goals as goal

pub returns-in-Err-file_going_on-clause-refused : goal.returns-in-Err-file_going_on-clause-refused
returns-in-Err-file_going_on-clause-refused g c = c.in-Err-file_going_on.ensures.refused c.args.config.now
