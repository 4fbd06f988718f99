use Rattle.sms_files.proofs.ParameterLaws.{parameters_read}
use Rattle.sms_files.proofs.laws.parameters_are_read_back.Goals as goal

pub returns : goal.returns
returns c = parameters_read
