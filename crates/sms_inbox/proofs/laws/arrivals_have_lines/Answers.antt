use Rattle.sms_inbox.proofs.Walks as walks
use Rattle.sms_inbox.proofs.laws.arrivals_have_lines.Goals as goal

pub returns : goal.returns
returns c = walks.arrivals_have_lines
