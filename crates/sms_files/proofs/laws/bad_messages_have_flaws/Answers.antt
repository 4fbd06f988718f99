use Rattle.sms_files.proofs.FirstFlaws.{messages_flawed}
use Rattle.sms_files.proofs.laws.bad_messages_have_flaws.Goals as goal

pub returns : goal.returns
returns c = messages_flawed
