use Rattle.sms_send.proofs.files.reading.read_files.Goals as goal

pub returns-in-Ok-clause-read : goal.returns-in-Ok-clause-read
returns-in-Ok-clause-read g c = record { config_is = c.in-Ok.ensures.config; files = c.in-Ok.ensures.read }
