use Rattle.sms_devices.proofs.inbox.LineDevice.new.Goals as goal

pub returns-clause-watched : goal.returns-clause-watched
returns-clause-watched g c = (c.now_ms.result, c.watch_from-enquiry.ensures)
