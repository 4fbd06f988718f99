use Rattle.std.proofs.Common.{arith}
use Rattle.std.proofs.lemmas.Grind.{common_steps}
use Rattle.sms_inbox.proofs.Cuts.{number_octets}
use Rattle.sms_inbox.proofs.line.write_error.Goals as goal

pub returns-in-Code : goal.returns-in-Code
returns-in-Code c = let same = number_octets c.in-Code.code (omega arith) in grind (arith, common_steps)
