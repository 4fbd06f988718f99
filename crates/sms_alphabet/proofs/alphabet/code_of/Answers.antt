use Rattle.std.proofs.Common.{arith, sym}
use Rattle.sms_alphabet.proofs.Lookups.{latin_code}
use Rattle.sms_alphabet.proofs.alphabet.code_of.Goals as goal

pub returns-then-code-ne-ESCAPE : goal.returns-then-code-ne-ESCAPE
returns-then-code-ne-ESCAPE c = sym (latin_code c.args.c (omega arith) c.if-code-ne-ESCAPE.true)
