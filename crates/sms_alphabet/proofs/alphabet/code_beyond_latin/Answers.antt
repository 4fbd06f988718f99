use Rattle.std.proofs.Common.{arith, sym}
use Rattle.sms_alphabet.proofs.Lookups.{no_code}
use Rattle.sms_alphabet.proofs.alphabet.code_beyond_latin.Goals as goal

pub returns-in_default : goal.returns-in_default
returns-in_default c = sym (no_code c.args.c c.requires (search arith))
