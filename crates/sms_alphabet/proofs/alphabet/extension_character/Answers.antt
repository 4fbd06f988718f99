use Rattle.std.proofs.Common.{arith}
use Rattle.sms_alphabet.proofs.Lookups.{no_extension}
use Rattle.sms_alphabet.proofs.alphabet.extension_character.Goals as goal

pub returns-in_default : goal.returns-in_default
returns-in_default c = no_extension c.args.code (search arith)
