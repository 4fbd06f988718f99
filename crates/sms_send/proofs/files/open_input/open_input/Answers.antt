use Rattle.std.proofs.Common.{ap}
use Rattle.sms_files.specs.declared.config.FileNames.{FileNames}
use Rattle.sms_send.proofs.files.open_input.open_input.Goals as goal

pub returns-clause-config : goal.returns-clause-config
returns-clause-config g c = ap (λ (f : FileNames). record c.args.config { files = f }) c.in-Ok.ensures.names
