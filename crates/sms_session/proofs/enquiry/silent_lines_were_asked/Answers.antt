use Rattle.sms_session.proofs.Enquiries.{silent_were_asked}
use Rattle.sms_session.proofs.enquiry.silent_lines_were_asked.Goals as goal

pub returns : goal.returns
returns c = silent_were_asked
