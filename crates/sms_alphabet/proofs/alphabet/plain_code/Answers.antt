use Rattle.std.proofs.Common.{arith}
use Rattle.sms_alphabet.proofs.Lookups.{own_code}
use Rattle.sms_alphabet.proofs.alphabet.plain_code.Goals as goal

pub returns-in_default : goal.returns-in_default
returns-in_default c = own_code c.args.octet c.requires (search arith) (search arith) (search arith)
